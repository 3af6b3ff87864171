use Rattle.std.proofs.Common.{◌≡◌, sym, ap, subst}
use Rattle.kom_state_lock.specs.Passes.{MayLog}
use Rattle.kom_state_lock.proofs.Turns.{may_log}
use Rattle.kom_state_lock.proofs.PassFacts.{logged_is_pass}
use Rattle.kom_state_lock.proofs.hall.Hall.log.Goals as goal

pub invariant_of-pass : goal.invariant_of-pass
invariant_of-pass g c =
    let key = c.self.inside.table.shared.key in
    let b = g.B.Booked in
    let me = c.pass.inside.seat.me in
    let turn : me.0.turn ≡ c.args.pass.now.turn = ap (λ p. p.turn) c.pass.view_is in
    let m = may_log b.pass_of b.led key.value.value key.passes b.follows me.0.turn c.args.entry c.args.held.now
    (subst (λ t. MayLog b.follows t c.args.entry c.args.held.now) (sym turn) c.requires.follows) in
    logged_is_pass c.pass.inside.number c.pass.inside.full me c.write_entry.new.seat.me m.0 m.1 m.2 c.args.entry
    c.look.result.now c.pass.invariant m.3 c.write_entry.ensures.logged
