use Rattle.std.proofs.Common.{◌≡◌, Bool, take, drop, map, filter, subst, sym, ap, ◌∙◌, rules, tests}
use Rattle.std.proofs.lemmas.Iterator.{YieldsList-from_take, items_from_collect}
use Rattle.std.proofs.lemmas.Iterator.Adapters.{YieldsList-from_skip}
use Rattle.std.proofs.lemmas.Iterator.Consumers.{YieldsList-at, YieldsList-from_filter, YieldsList-from_first}
use Rattle.std.proofs.lemmas.Result.{IfOk-at_ok}
use Rattle.kom_types.specs.declared.memberships.Member.{Member}
use Rattle.kom_model.specs.Db.{members_of}
use Rattle.kom_model.specs.Shown.{shows_membership}
use Rattle.kom_types.specs.tables.Memberships.{member_of}
use Rattle.query_calls.specs.Hidden.{hidden_members}
use Rattle.query_calls.specs.Walks.{LeadsTo}
use Rattle.query_calls.proofs.HiddenRows.{leads}
use Rattle.query_calls.proofs.Memberships.{part-map}
use Rattle.query_calls.proofs.on_memberships.members_from.Goals as goal

pub returns : goal.returns
returns c =
    let db = c.rows-rows.result.now.db in
    let rows = members_of db c.args.conference in
    let first = c.args.first in
    let passed = c.args.passed in
    let test : Member → Bool =
    λ member. shows_membership db c.args.caller.now member.person c.args.conference member.kind in
    let taken : c.in_ok-members.members.items
    ≡ take c.args.count (drop passed (filter test (map member_of (drop first rows)))) =
    IfOk-at_ok _ c.in_ok-members.was (items_from_collect c.collect.result c.collect.ensures.ran
    (YieldsList-from_take c.args.count (YieldsList-at c.take.ensures.source
    (YieldsList-from_skip passed (YieldsList-at c.skip.ensures.source
    (YieldsList-from_filter _ test
    (YieldsList-from_first (λ x. x) (λ s. s) (map member_of (drop first rows))
    (c.filter.ensures.source ∙ c.members_from.ensures))
    c.filter.ensures.closure (λ x b q k. search (rules, tests))))
    c.skip.ensures.count))
    c.take.ensures.count)) in
    let hidden : passed ≡ hidden_members db c.args.caller.now c.args.conference first =
    c.requires.passed
    ∙ ap (λ d. hidden_members d c.args.caller.now c.args.conference first) (sym c.rows-rows.ensures) in
    rw (← c.requires.caller, ← c.rows-rows.ensures)
    (c.of.ensures ∙ taken ∙ part-map member_of test passed c.args.count (drop first rows)
    ∙ ap (λ l. map member_of (take c.args.count l))
    (subst (LeadsTo (λ row. test (member_of row)) rows first) (sym hidden)
    (leads (λ row. test (member_of row)) rows first)).same)
