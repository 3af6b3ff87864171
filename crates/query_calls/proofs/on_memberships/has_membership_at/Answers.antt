use Rattle.std.proofs.Common.{filter, drop, subst, sym, ap, ◌∙◌, rules, tests}
use Rattle.std.proofs.lemmas.Iterator.Consumers.{nth_from_yields_List, YieldsList-from_filter}
use Rattle.std.proofs.lemmas.Iterator.Consumers.{YieldsList-from_first}
use Rattle.kom_model.specs.Db.{memberships_of}
use Rattle.kom_model.specs.calls.Memberships.{is_shown}
use Rattle.query_calls.specs.Walks.{LeadsTo}
use Rattle.query_calls.proofs.HiddenRows.{leads, led-length}
use Rattle.query_calls.proofs.Memberships.{found_at}
use Rattle.query_calls.proofs.on_memberships.has_membership_at.Goals as goal

pub returns : goal.returns
returns c =
    let asked = c.args.asked.now in
    let rows = memberships_of asked.db c.args.person in
    let place = c.args.place in
    let passed = c.args.passed in
    c.is_some.ensures
    ∙ found_at c.nth.result (filter (is_shown asked) (drop place rows)) passed
    (nth_from_yields_List c.nth.result _ passed c.nth.ensures.ran
    (YieldsList-from_filter _ (is_shown asked)
    (YieldsList-from_first (λ x. x) (λ s. s) (drop place rows)
    (c.filter-shown.ensures.source ∙ c.memberships_from.ensures
    ∙ ap (λ db. drop place (memberships_of db c.args.person)) c.rows.ensures))
    c.filter-shown.ensures.closure (λ x b q k. search (rules, tests))))
    ∙ led-length (is_shown asked) rows place passed
    (subst (LeadsTo (is_shown asked) rows place) (sym c.requires) (leads (is_shown asked) rows place))
