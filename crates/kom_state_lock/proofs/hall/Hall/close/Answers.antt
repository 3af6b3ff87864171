use Rattle.std.proofs.Common.{ap, arith}
use Rattle.kom_state_lock.proofs.Gathered.{some_pass, covers, all_closed}
use Rattle.kom_state_lock.proofs.hall.Hall.close.Goals as goal

pub gather-number-requires-clause-some : goal.gather-number-requires-clause-some
gather-number-requires-clause-some g c = some_pass c.args.passes.items 0
    (c.requires.every 0 (omega (arith, c.self.invariant.1, ap (λ h. h.passes) c.self.view_is)))

pub settle-requires-clause-covers : goal.settle-requires-clause-covers
settle-requires-clause-covers g c =
    covers c.self.inside.table.shared.key.passes c.args.passes.items c.gather-number.result.1.me.0
    c.gather-number.ensures.knows
    (λ n low. c.requires.every n (omega (arith, ap (λ h. h.passes) c.self.view_is)))

pub returns-clause-closed : goal.returns-clause-closed
returns-clause-closed g c =
    all_closed g.B.Booked.pass_of c.self.inside.table.shared.key.passes c.self.inside.table.shared.table_id
    c.args.passes.items c.gather-number.result.1.me.0 c.settle.result.1
    c.settle.ensures.settled c.gather-number.ensures.knows c.settle.ensures.pass
