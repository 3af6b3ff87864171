use Rattle.std.proofs.Common.{Some, is_some, option_copied, sym, ap, ◌∙◌}
use Rattle.std.proofs.lemmas.Bool.{false≢true}
use Rattle.memberships.specs.Entries.{kept_row}
use Rattle.memberships.proofs.Finding.{none_of, element_of, person_none, person_kept, person_found}
use Rattle.memberships.proofs.table.Memberships.nth_of_person.Goals as goal

pub returns-in_err-conference : goal.returns-in_err-conference
returns-in_err-conference c =
    let none = none_of _ _ c.args.place c.list-list.ensures c.in_err-conference.ensures.lookup.3 in
    rw (← c.self.view_is)
    (c.from_residual.ensures ∙ sym (person_none _ _ _ _ c.self.invariant.0 c.args.person c.args.place none))

-- a conference in the list of a person is one of the person
pub returns-in_err-kept : goal.returns-in_err-kept
returns-in_err-kept c =
    let gives = c.in_ok-conference.ensures.lookup in
    let at = element_of _ _ c.args.place c.in_ok-conference.field-0.now c.list-list.ensures gives.3.0 gives.1 in
    let there = person_kept _ _ _ _ c.self.invariant.0 c.args.person c.args.place c.in_ok-conference.field-0.now at in
    absurd (false≢true (ap is_some (ap option_copied (sym c.in_err-kept.was) ∙ c.get-2.ensures.value) ∙ there))

pub returns : goal.returns
returns c =
    let gives = c.in_ok-conference.ensures.lookup in
    let at = element_of _ _ c.args.place c.in_ok-conference.field-0.now c.list-list.ensures gives.3.0 gives.1 in
    let there = sym c.get-2.ensures.value ∙ ap option_copied c.in_ok-kept.was in
    rw (← c.self.view_is)
    (ap Some c.show.ensures
    ∙ ap (λ n. Some (kept_row c.args.person c.in_ok-conference.field-0.now n c.in_ok-kept.kept.now))
    c.short_place.ensures
    ∙ sym (person_found _ _ _ _ c.self.invariant.0 c.args.person c.args.place c.in_ok-conference.field-0.now
    c.in_ok-kept.kept.now at there))
