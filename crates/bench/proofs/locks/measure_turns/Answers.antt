use Rattle.std.proofs.Common.{◌≡◌, ◌++◌, length, map, take, drop, All, Contains, sym, ap, ◌∙◌, subst, arith}
use Rattle.std.proofs.Math.Seq.{take-append_seam}
use Rattle.kom_state_lock.specs.Passes.{HoldsNoTurn, number_of}
use Rattle.kom_state_lock.proofs.Ready.{ready_every, ready_free}
use Rattle.bench.proofs.locks.measure_turns.Goals as goal

pub close-pass-requires-clause-every : goal.close-pass-requires-clause-every
close-pass-requires-clause-every g c number low =
    let new = c.take_together.new.passes in
    let rest = drop (length new) c.in-Ok.row.items in
    let long : c.in-Ok.row.len ≡ length new = omega (arith, c.as_mut_slice.ensures.len, c.take_together.auto.passes) in
    subst (λ l. Contains (map number_of l) number)
    (sym (ap (λ n. take n (new ++ rest)) long ∙ take-append_seam new rest))
    (ready_every c.in-Ok.hall new c.take_together.ensures number low)

pub close-pass-requires-clause-free : goal.close-pass-requires-clause-free
close-pass-requires-clause-free g c =
    let new = c.take_together.new.passes in
    let rest = drop (length new) c.in-Ok.row.items in
    let long : c.in-Ok.row.len ≡ length new = omega (arith, c.as_mut_slice.ensures.len, c.take_together.auto.passes) in
    subst (λ l. All (λ p. HoldsNoTurn p.turn) l) (sym (ap (λ n. take n (new ++ rest)) long ∙ take-append_seam new rest))
    (ready_free c.in-Ok.hall new c.take_together.ensures)
