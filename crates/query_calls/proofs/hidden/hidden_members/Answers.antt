use Rattle.std.proofs.Common.{◌≡◌, ◌&&◌, ◌||◌, ℕ, Bool, true, false, not, eqb, take, map, min, sym, ap, ◌∙◌, rules}
use Rattle.std.proofs.Common.{tests}
use Rattle.std.specs.List.{list_any}
use Rattle.std.proofs.lemmas.Iterator.{YieldsList-from_slice, YieldsList-from_take}
use Rattle.std.proofs.lemmas.Iterator.Consumers.{YieldsList-at, YieldsList-from_filter, YieldsList-from_first}
use Rattle.std.proofs.lemmas.Iterator.Consumers.{count_from_yields_List}
use Rattle.std.proofs.lemmas.List.Sums.{length-filter}
use Rattle.kom_types.specs.declared.memberships.Member.{Member}
use Rattle.kom_types.specs.tables.Memberships.{member_of}
use Rattle.kom_model.specs.Db.{members_of}
use Rattle.kom_model.specs.Rights.{supervises, sees}
use Rattle.kom_model.specs.Shown.{shows_membership}
use Rattle.query_calls.specs.Hidden.{hidden_members}
use Rattle.query_calls.proofs.HiddenRows.{none_from_strong, none_from_supervisor, all_from_outside, hidden_by_secret}
use Rattle.query_calls.proofs.HiddenRows.{first_made}
use Rattle.query_calls.proofs.hidden.hidden_members.Goals as goal
use Rattle.query_calls.proofs.hidden.hidden_members.Goals.{then-viewer-via-then-viewer}
use Rattle.query_calls.proofs.hidden.hidden_members.Goals.{then-viewer-via-else-viewer+then-supervises}

pub returns-then-first-eq0 : goal.returns-then-first-eq0
returns-then-first-eq0 c =
    ap (hidden_members c.args.rows.now.db c.args.viewer.now c.args.conference) (sym c.if-first-eq0.true)

pub returns-then-not-sees : goal.returns-then-not-sees
returns-then-not-sees c =
    let db = c.args.rows.now.db in
    let unseen : sees db c.args.viewer.now c.args.conference ≡ false = sym c.if-not-sees.ensures in
    c.min.ensures ∙ ap (min c.args.first) c.member_count.ensures
    ∙ all_from_outside db c.args.viewer.now c.args.conference c.args.first unseen

pub returns-then-viewer : goal.returns-then-viewer
returns-then-viewer c =
    let db = c.args.rows.now.db in
    let seen : sees db c.args.viewer.now c.args.conference ≡ true = sym c.if-not-sees.ensures in
    elim c.then-viewer.branch [
      | then-viewer-via-then-viewer w ↦
          none_from_strong db c.args.viewer.now c.args.conference c.args.first seen w.if-viewer.true
      | then-viewer-via-else-viewer+then-supervises w ↦
          none_from_supervisor db c.args.viewer.now c.args.conference c.args.first seen
          (sym w.supervises.ensures ∙ w.if-supervises.true)
    ]

pub returns-then-first-secret : goal.returns-then-first-secret
returns-then-first-secret c =
    let db = c.args.rows.now.db in
    let viewer = c.args.viewer.now in
    let first = c.args.first in
    let rows = members_of db c.args.conference in
    let test : Member → Bool =
    λ member. not (shows_membership db viewer member.person c.args.conference member.kind) in
    count_from_yields_List c.filter.result c.count.result c.count.ensures.ran
    (YieldsList-from_filter _ test
    (YieldsList-at c.filter.ensures.source
    (YieldsList-from_take first
    (YieldsList-from_first (λ x. x) (λ s. s) (map member_of rows) (c.take.ensures.source ∙ c.members.ensures))
    c.take.ensures.count))
    c.filter.ensures.closure (λ x b q k. search (rules, tests)))
    ∙ first_made member_of test first rows
    ∙ length-filter (λ row. test (member_of row)) (take first rows)

pub returns : goal.returns
returns c =
    let db = c.args.rows.now.db in
    let viewer = c.args.viewer.now in
    let first = c.args.first in
    let seen : sees db viewer c.args.conference ≡ true = sym c.if-not-sees.ensures in
    let test : ℕ → Bool =
    λ person. not (eqb viewer.person person || supervises db viewer.person person)
    && list_any (λ row. eqb row.person person) (take first (members_of db c.args.conference)) in
    count_from_yields_List c.filter-2.result c.count-2.result c.count-2.ensures.ran
    (YieldsList-from_filter _ test
    (YieldsList-at c.filter-2.ensures.source
    (YieldsList-from_slice c.secret_members-secret.result.now c.iter.ensures.rest))
    c.filter-2.ensures.closure (λ x b q k. search (rules, tests)))
    ∙ length-filter test c.secret_members-secret.result.now
    ∙ c.secret_members-secret.ensures.counted test
    ∙ hidden_by_secret db viewer c.args.conference first seen c.if-viewer.false
    (sym c.supervises.ensures ∙ c.if-supervises.false) c.secret_members-secret.ensures.once
