use Rattle.std.proofs.Common.{ap, sym, take, ◌∙◌, rules, tests, arith}
use Rattle.std.proofs.lemmas.Bool.{eq-eqb}
use Rattle.std.proofs.lemmas.Iterator.{YieldsList-from_take}
use Rattle.std.proofs.lemmas.Iterator.Consumers.{YieldsList-at, YieldsList-from_filter, YieldsList-from_first}
use Rattle.std.proofs.lemmas.Iterator.Consumers.{count_from_yields_List}
use Rattle.std.proofs.lemmas.List.Sums.{length-filter}
use Rattle.kom_model.specs.Db.{memberships_of}
use Rattle.query_calls.specs.Hidden.{hidden_memberships, is_hidden}
use Rattle.query_calls.proofs.HiddenRows.{none_if_strong, none_if_own, both_kinds, hidden-short}
use Rattle.query_calls.proofs.hidden.hidden_memberships.Goals as goal
use Rattle.query_calls.proofs.hidden.hidden_memberships.Goals.{then-viewer-via-then-viewer}
use Rattle.query_calls.proofs.hidden.hidden_memberships.Goals.{then-viewer-via-else-viewer+then-viewer-person}

pub returns-then-first-eq0 : goal.returns-then-first-eq0
returns-then-first-eq0 c =
    ap (hidden_memberships c.args.rows.now.db c.args.viewer.now c.args.person) (sym c.if-first-eq0.true)

pub returns-then-viewer : goal.returns-then-viewer
returns-then-viewer c =
    let db = c.args.rows.now.db in
    let there = c.membership_count-count.ensures.there in
    elim c.then-viewer.branch [
      | then-viewer-via-then-viewer w ↦
          none_if_strong db c.args.viewer.now c.args.person c.args.first there w.if-viewer.true
      | then-viewer-via-else-viewer+then-viewer-person w ↦
          none_if_own db c.args.viewer.now c.args.person c.args.first there
          (eq-eqb c.args.viewer.now.person c.args.person w.if-viewer-person.true)
    ]

pub returns-then-looks-secret_conferences : goal.returns-then-looks-secret_conferences
returns-then-looks-secret_conferences c =
    let db = c.args.rows.now.db in
    let rows = memberships_of db c.args.person in
    count_from_yields_List c.filter.result c.count.result c.count.ensures.ran
    (YieldsList-from_filter _ (is_hidden db c.args.viewer.now)
    (YieldsList-at c.filter.ensures.source
    (YieldsList-from_take c.args.first
    (YieldsList-from_first (λ x. x) (λ s. s) rows (c.take.ensures.source ∙ c.memberships.ensures))
    c.take.ensures.count))
    c.filter.ensures.closure (λ x b q k. search (rules, tests)))
    ∙ length-filter (is_hidden db c.args.viewer.now) (take c.args.first rows)

pub overflow_add-result : goal.overflow_add-result
overflow_add-result c =
    let db = c.args.rows.now.db in
    omega (
      arith,
      c.hidden_secret.ensures,
      c.hidden_plain.ensures,
      both_kinds db c.args.viewer.now c.args.person c.args.first,
      hidden-short db c.args.viewer.now c.args.person c.args.first,
      c.membership_count-count.ensures.count,
      c.membership_count-count.type_inv,
    )

pub returns : goal.returns
returns c =
    let db = c.args.rows.now.db in
    omega (
      arith,
      c.hidden_secret.ensures,
      c.hidden_plain.ensures,
      both_kinds db c.args.viewer.now c.args.person c.args.first,
    )
