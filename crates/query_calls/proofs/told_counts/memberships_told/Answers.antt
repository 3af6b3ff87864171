use Rattle.std.proofs.Common.{◌-◌, ap, ◌∙◌}
use Rattle.kom_types.specs.declared.memberships.MembershipRow.{MembershipRow}
use Rattle.kom_model.specs.Db.{memberships_of}
use Rattle.kom_model.specs.Shown.{shows_membership, told_count}
use Rattle.query_calls.specs.Hidden.{hidden_memberships}
use Rattle.query_calls.proofs.HiddenRows.{told-all}
use Rattle.query_calls.proofs.told_counts.memberships_told.Goals as goal

pub returns : goal.returns
returns c =
    let db = c.args.rows.now.db in
    let viewer = c.args.viewer.now in
    let person = c.args.person in
    let count = c.membership_count-count.ensures.count in
    c.told_count.ensures
    ∙ ap told_count
    ((λ i. count i - (c.hidden_memberships.ensures ∙ ap (hidden_memberships db viewer person) count) i)
    ∙ told-all (λ (row : MembershipRow). shows_membership db viewer row.person row.conference row.kind)
    (memberships_of db person))
