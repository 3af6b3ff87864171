use Rattle.std.proofs.Common.{◌≡◌, ◌&&◌, Bool, not, map, filter, ap, ◌∙◌, rules, tests}
use Rattle.std.proofs.lemmas.Iterator.{YieldsList-from_map, items_from_collect}
use Rattle.std.proofs.lemmas.Iterator.Consumers.{YieldsList-at, YieldsList-from_filter, YieldsList-from_first}
use Rattle.std.proofs.lemmas.Result.{IfOk-at_ok}
use Rattle.kom_types.specs.declared.memberships.MembershipRow.{MembershipRow}
use Rattle.kom_model.specs.Db.{memberships_of}
use Rattle.kom_types.specs.tables.Memberships.{is_passive}
use Rattle.kom_model.specs.calls.Memberships.{is_shown, is_unread}
use Rattle.query_calls.proofs.on_memberships.unread_confs.Goals as goal

pub returns : goal.returns
returns c =
    let asked = c.args.asked.now in
    let rows = memberships_of asked.db c.args.person in
    let test : MembershipRow → Bool =
    λ row. is_shown asked row && not (is_passive row.kind) && is_unread asked.db row in
    let told : c.in_ok-numbers.numbers.items ≡ map (λ row. row.conference) (filter test rows) =
    IfOk-at_ok _ c.in_ok-numbers.was (items_from_collect c.collect.result c.collect.ensures.ran
    (YieldsList-from_map _ (λ (row : MembershipRow). row.conference) (YieldsList-at c.map.ensures.source
    (YieldsList-from_filter _ test
    (YieldsList-from_first (λ x. x) (λ s. s) rows
    (c.filter.ensures.source ∙ c.memberships.ensures
    ∙ ap (λ db. memberships_of db c.args.person) c.rows.ensures))
    c.filter.ensures.closure (λ x b q k. search (rules, tests))))
    c.map.ensures.closure (λ x r q k. search rules))) in
    c.of.ensures ∙ told
