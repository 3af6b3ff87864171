use Rattle.std.proofs.Common.{◌≡◌, ◌≤◌, ◌+◌, ◌-◌, ℕ, length, drop, subst, arith}
use Rattle.std.proofs.lemmas.List.{length-drop}
use Rattle.batch_log.specs.Gates.{IsAtRest}
use Rattle.batch_log.proofs.Chunks.{length-flushed, one_flushed, rests_after}
use Rattle.batch_log.proofs.log.Log.flush.Goals as goal

pub returns-in-Ok-clause-place : goal.returns-in-Ok-clause-place
returns-in-Ok-clause-place g c =
    let chunk = c.self.inside.chunk in
    let body = drop 8 chunk.items in
    let counts : length body ≡ c.len.result - 8 = omega (arith, length-drop 8 chunk.items, c.len.ensures, chunk.ok.0) in
    let e = length-flushed body (omega (arith, counts)) in
    rw (← c.self.view_is) (omega (arith, counts, e))

pub returns-in-Ok-clause-counted : goal.returns-in-Ok-clause-counted
returns-in-Ok-clause-counted g c =
    let chunk = c.self.inside.chunk in
    let body = drop 8 chunk.items in
    let counts : length body ≡ c.len.result - 8 = omega (arith, length-drop 8 chunk.items, c.len.ensures, chunk.ok.0) in
    let e = one_flushed body (omega (arith, counts)) in
    rw (← c.self.view_is) (omega (arith, e))

pub returns-in-Ok-clause-at_rest : goal.returns-in-Ok-clause-at_rest
returns-in-Ok-clause-at_rest g c told =
    let inside = c.self.inside in
    let chunk = inside.chunk in
    let body = drop 8 chunk.items in
    let counts : length body ≡ c.len.result - 8 = omega (arith, length-drop 8 chunk.items, c.len.ensures, chunk.ok.0) in
    let bytes = g.D.Disk.bytes inside.disk in
    let end = c.append_chunk.new.disk in
    let within : inside.place ≤ length bytes =
    omega (arith, g.met.D.Disk.counts_bytes inside.disk told, c.self.invariant.within) in
    subst (λ (n : ℕ). IsAtRest (inside.place + (9 + n)) (g.D.Disk.bytes end) (g.D.Disk.images end)) counts
    (rests_after inside.place bytes body (g.D.Disk.bytes end) (g.D.Disk.images end) within
    (c.in-Ok.ensures.opened told))
