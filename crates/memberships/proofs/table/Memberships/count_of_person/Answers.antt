use Rattle.std.proofs.Common.{length, sym, ap, ◌∙◌}
use Rattle.memberships.proofs.Viewing.{count, orderly}
use Rattle.memberships.proofs.table.Memberships.count_of_person.Goals as goal

pub returns-clause-count : goal.returns-clause-count
returns-clause-count c =
    rw (← c.self.view_is) (ap length c.list.ensures ∙ sym (count _ _ _ _ c.self.invariant.0 c.args.person))

pub returns-clause-orderly : goal.returns-clause-orderly
returns-clause-orderly c = rw (← c.self.view_is) (orderly _ _ _ _ c.self.invariant.0)
