use Rattle.std.proofs.Common.{◌≡◌, Some, option_copied, sym, ap, ◌∙◌}
use Rattle.std.proofs.lemmas.Option.{none-some, same_Some}
use Rattle.row_slots.specs.Lists.{list_of}
use Rattle.memberships.specs.Entries.{kept_row, place_of}
use Rattle.memberships.proofs.Finding.{found, not_found, place_found}
use Rattle.memberships.proofs.table.Memberships.get.Goals as goal

pub returns-in_err-kept : goal.returns-in_err-kept
returns-in_err-kept c =
    rw (← c.self.view_is)
    (c.from_residual.ensures
    ∙ sym (not_found _ _ _ _ c.self.invariant.0 c.args.person c.args.conference
    (sym c.get.ensures.value ∙ ap option_copied c.in_err-kept.was)))

-- a conference of the person is in the person's list
pub returns-in_err-place : goal.returns-in_err-place
returns-in_err-place c =
    let there = sym c.get.ensures.value ∙ ap option_copied c.in_ok-kept.was in
    let place = place_found _ _ _ _ c.self.invariant.0 c.args.person c.args.conference c.in_ok-kept.kept.now there in
    absurd (none-some _ (sym c.in_err-place.was ∙ c.position_of.ensures ∙ place))

pub returns : goal.returns
returns c =
    let there = sym c.get.ensures.value ∙ ap option_copied c.in_ok-kept.was in
    let at = place_found _ _ _ _ c.self.invariant.0 c.args.person c.args.conference c.in_ok-kept.kept.now there in
    let place : c.in_ok-place.place ≡ place_of c.args.conference (list_of c.self.inside.conferences c.args.person) =
    same_Some _ _ (sym c.in_ok-place.was ∙ c.position_of.ensures ∙ at) in
    rw (← c.self.view_is)
    (ap Some c.show.ensures
    ∙ ap (λ n. Some (kept_row c.args.person c.args.conference n c.in_ok-kept.kept.now)) (c.short_place.ensures ∙ place)
    ∙ sym (found _ _ _ _ c.self.invariant.0 c.args.person c.args.conference c.in_ok-kept.kept.now there))
