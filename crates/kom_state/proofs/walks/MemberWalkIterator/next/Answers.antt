use Rattle.std.proofs.Common.{sym, ◌∙◌}
use Rattle.kom_model.specs.Db.{members_of}
use Rattle.kom_types.specs.tables.Memberships.{member_of}
use Rattle.kom_state.proofs.Walking.{mapped_goes}
use Rattle.kom_state.proofs.walks.MemberWalkIterator.next.Goals as goal

pub returns-clause-steps : goal.returns-clause-steps
returns-clause-steps c =
    sym c.self.view_is
    ∙ mapped_goes (members_of c.self.inside.rows.now.db c.self.inside.conference) c.self.inside.place member_of
    c.in_ok-member.member (sym c.nth_member.ensures ∙ c.in_ok-member.was)
