use Rattle.std.proofs.Common.{◌≡◌, Bool, ltb, map, filter, drop, subst, sym, ap, ◌∙◌, rules, tests}
use Rattle.std.proofs.lemmas.Iterator.Consumers.{nth_from_yields_List, YieldsList-from_filter}
use Rattle.std.proofs.lemmas.Iterator.Consumers.{YieldsList-from_first}
use Rattle.kom_types.specs.declared.memberships.Member.{Member}
use Rattle.kom_model.specs.Db.{members_of}
use Rattle.kom_model.specs.Shown.{shows_membership}
use Rattle.kom_types.specs.tables.Memberships.{member_of}
use Rattle.query_calls.specs.Hidden.{hidden_members}
use Rattle.query_calls.specs.Walks.{LeadsTo}
use Rattle.query_calls.proofs.HiddenRows.{leads, led-length}
use Rattle.query_calls.proofs.Memberships.{found_at, length-filter-map}
use Rattle.query_calls.proofs.on_memberships.has_member_at.Goals as goal

pub returns : goal.returns
returns c =
    let db = c.rows-rows.result.now.db in
    let rows = members_of db c.args.conference in
    let place = c.args.place in
    let passed = c.args.passed in
    let test : Member → Bool =
    λ member. shows_membership db c.args.caller.now member.person c.args.conference member.kind in
    let hidden : passed ≡ hidden_members db c.args.caller.now c.args.conference place =
    c.requires.passed
    ∙ ap (λ d. hidden_members d c.args.caller.now c.args.conference place) (sym c.rows-rows.ensures) in
    rw (← c.requires.caller, ← c.rows-rows.ensures)
    (c.is_some.ensures
    ∙ found_at c.nth.result (filter test (map member_of (drop place rows))) passed
    (nth_from_yields_List c.nth.result _ passed c.nth.ensures.ran
    (YieldsList-from_filter _ test
    (YieldsList-from_first (λ x. x) (λ s. s) (map member_of (drop place rows))
    (c.filter-shown.ensures.source ∙ c.members_from.ensures))
    c.filter-shown.ensures.closure (λ x b q k. search (rules, tests))))
    ∙ ap (ltb passed) (length-filter-map member_of test (drop place rows))
    ∙ led-length (λ row. test (member_of row)) rows place passed
    (subst (LeadsTo (λ row. test (member_of row)) rows place) (sym hidden)
    (leads (λ row. test (member_of row)) rows place)))
