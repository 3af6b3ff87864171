use Rattle.std.proofs.Common.{◌-◌, ap, ◌∙◌}
use Rattle.kom_types.specs.declared.memberships.MembershipRow.{MembershipRow}
use Rattle.kom_model.specs.Db.{members_of}
use Rattle.kom_model.specs.Shown.{shows_membership, told_count}
use Rattle.query_calls.specs.Hidden.{hidden_members}
use Rattle.query_calls.proofs.HiddenRows.{told-all}
use Rattle.query_calls.proofs.told_counts.members_told.Goals as goal

pub returns : goal.returns
returns c =
    let db = c.args.rows.now.db in
    let viewer = c.args.viewer.now in
    let conference = c.args.conference in
    let count = c.member_count-count.ensures in
    c.told_count.ensures
    ∙ ap told_count
    ((λ i. count i - (c.hidden_members.ensures ∙ ap (hidden_members db viewer conference) count) i)
    ∙ told-all (λ (row : MembershipRow). shows_membership db viewer row.person conference row.kind)
    (members_of db conference))
