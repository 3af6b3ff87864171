use Rattle.std.proofs.Common.{◌≡◌, ◌+◌, ◌<◌, List, ◌∷◌, ◌++◌, [], length, take, drop, filter, get_or, subst, sym, ap}
use Rattle.std.proofs.Common.{◌∙◌, rules, tests, arith}
use Rattle.std.proofs.lemmas.Iterator.{YieldsList-from_take}
use Rattle.std.proofs.lemmas.Iterator.Adapters.{YieldsList-from_skip}
use Rattle.std.proofs.lemmas.Iterator.Consumers.{YieldsList-at, YieldsList-from_filter, YieldsList-from_first}
use Rattle.std.proofs.lemmas.Iterator.Consumers.{YieldsList-turn, YieldsList-end}
use Rattle.std.proofs.lemmas.List.{length_push}
use Rattle.kom_types.specs.declared.memberships.MembershipRow.{MembershipRow}
use Rattle.kom_model.specs.Db.{memberships_of}
use Rattle.kom_model.specs.calls.Memberships.{is_shown, part, shown_memberships, membership_told}
use Rattle.query_calls.specs.Walks.{LeadsTo}
use Rattle.query_calls.proofs.HiddenRows.{leads}
use Rattle.query_calls.proofs.Memberships.{AreTold, told-more, told-all}
use Rattle.query_calls.proofs.on_memberships.memberships_from.Goals as goal

pub loop-row-preserved : goal.loop-row-preserved
loop-row-preserved c =
    let asked = c.args.asked.now in
    let want_ranges = c.args.want_ranges in
    let most = c.args.most in
    let first = c.args.first in
    let rows = memberships_of asked.db c.args.person in
    let passed = c.args.passed in
    let given = part first c.args.count (shown_memberships asked c.args.person) in
    let walked : take c.args.count (drop passed (filter (is_shown asked) (drop first rows))) ≡ given =
    ap (take c.args.count)
    (subst (LeadsTo (is_shown asked) rows first) (sym c.requires) (leads (is_shown asked) rows first)).same in
    let yielded = c.loop-row.yielded in
    let row = c.in-Some.row in
    let told = c.loop-row.told in
    let turn = YieldsList-turn (YieldsList-at c.into_iter-row-iterator.ensures.into_iter_gives
    (YieldsList-from_take c.args.count (YieldsList-at c.take-shown.ensures.source
    (YieldsList-from_skip passed (YieldsList-at c.skip.ensures.source
    (YieldsList-from_filter _ (is_shown asked)
    (YieldsList-from_first (λ x. x) (λ s. s) (drop first rows)
    (c.filter.ensures.source ∙ c.memberships_from.ensures
    ∙ ap (λ db. drop first (memberships_of db c.args.person)) c.rows.ensures))
    c.filter.ensures.closure (λ x b q k. search (rules, tests))))
    c.skip.ensures.count))
    c.take-shown.ensures.count))
    yielded _ c.loop-row.yielded_by _ _ row c.in-Some.is c.next.ensures.steps in
    subst (λ count. AreTold asked want_ranges most first given count c.push.new.self) (sym (length_push yielded row))
    (told-more asked want_ranges most first given _ row told c.push.new.self c.loop-row.invariant
    (subst (λ (l : List MembershipRow). (length yielded < length l) × (row ≡ get_or l (length yielded) row)) walked
    turn)
    (c.in_ok-push.ensures.ok ∙ ap (λ one. told ++ one ∷ []) (c.in_ok-membership_told.ensures
    ∙ ap (λ count. membership_told asked want_ranges most (first + count) row) c.len.ensures)))

pub returns : goal.returns
returns c =
    let asked = c.args.asked.now in
    let first = c.args.first in
    let rows = memberships_of asked.db c.args.person in
    let passed = c.args.passed in
    let given = part first c.args.count (shown_memberships asked c.args.person) in
    let walked : take c.args.count (drop passed (filter (is_shown asked) (drop first rows))) ≡ given =
    ap (take c.args.count)
    (subst (LeadsTo (is_shown asked) rows first) (sym c.requires) (leads (is_shown asked) rows first)).same in
    let end = YieldsList-end (YieldsList-at c.into_iter-row-iterator.ensures.into_iter_gives
    (YieldsList-from_take c.args.count (YieldsList-at c.take-shown.ensures.source
    (YieldsList-from_skip passed (YieldsList-at c.skip.ensures.source
    (YieldsList-from_filter _ (is_shown asked)
    (YieldsList-from_first (λ x. x) (λ s. s) (drop first rows)
    (c.filter.ensures.source ∙ c.memberships_from.ensures
    ∙ ap (λ db. drop first (memberships_of db c.args.person)) c.rows.ensures))
    c.filter.ensures.closure (λ x b q k. search (rules, tests))))
    c.skip.ensures.count))
    c.take-shown.ensures.count))
    c.loop-row.yielded _ c.loop-row.yielded_by _ _ c.in-None.is c.next.ensures.steps in
    told-all asked c.args.want_ranges c.args.most first given _ c.loop-row.told c.loop-row.invariant
    (omega (arith, end.1, ap length walked))
