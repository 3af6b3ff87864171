use Rattle.std.proofs.Common.{sym, ◌∙◌}
use Rattle.kom_model.specs.Db.{memberships_of}
use Rattle.kom_state.proofs.Walking.{walk_goes}
use Rattle.kom_state.proofs.walks.MembershipWalkIterator.next.Goals as goal

pub returns-clause-steps : goal.returns-clause-steps
returns-clause-steps c =
    sym c.self.view_is
    ∙ walk_goes (memberships_of c.self.inside.rows.now.db c.self.inside.person) c.self.inside.place c.in_ok-row.row
    (sym c.nth_membership.ensures ∙ c.in_ok-row.was)
