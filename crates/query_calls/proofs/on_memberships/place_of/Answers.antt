use Rattle.std.proofs.Common.{◌≡◌, ◌-◌, length, subst, ap, ◌∙◌}
use Rattle.std.specs.Prelude.{min}
use Rattle.kom_model.specs.Db.{memberships_of}
use Rattle.kom_model.specs.calls.Guards.{caller}
use Rattle.kom_state.specs.Placed.{AreInPlace, AreFound}
use Rattle.query_calls.specs.Hidden.{hidden_memberships}
use Rattle.query_calls.proofs.HiddenRows.{placed}
use Rattle.query_calls.proofs.on_memberships.place_of.Goals as goal

pub returns : goal.returns
returns c =
    let asked = c.args.asked.now in
    let person = c.args.row.now.person in
    let position = c.args.row.now.position in
    let in_place : AreInPlace asked.db person =
    subst (λ db. AreInPlace db person) c.rows-rows.ensures c.membership_count.ensures.in_place in
    let found : AreFound asked.db person =
    subst (λ db. AreFound db person) c.rows-rows.ensures c.membership_count.ensures.found in
    let many : c.membership_count.result ≡ length (memberships_of asked.db person) =
    c.membership_count.ensures.count ∙ ap (λ db. length (memberships_of db person)) c.rows-rows.ensures in
    let place : c.min-place.result ≡ min (length (memberships_of asked.db person)) position =
    c.min-place.ensures ∙ ap (λ count. min count position) many in
    let hidden : c.hidden_memberships.result
    ≡ hidden_memberships asked.db (caller asked) person (min (length (memberships_of asked.db person)) position) =
    c.hidden_memberships.ensures
    ∙ ap (λ db. hidden_memberships db c.caller.result person c.min-place.result) c.rows-rows.ensures
    ∙ ap (λ viewer. hidden_memberships asked.db viewer person c.min-place.result) c.caller.ensures
    ∙ ap (hidden_memberships asked.db (caller asked) person) place in
    (λ i. place i - hidden i) ∙ placed asked.db (caller asked) person in_place found position
