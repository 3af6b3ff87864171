use Rattle.std.proofs.Common.{Some, is_some, option_copied, option_map, sym, ap, ◌∙◌}
use Rattle.std.proofs.lemmas.Bool.{false≢true}
use Rattle.row_slots.specs.Lists.{list_of}
use Rattle.memberships.specs.Entries.{place_of}
use Rattle.kom_types.specs.tables.Memberships.{member_of}
use Rattle.memberships.proofs.Finding.{none_of, element_of, conference_none, conference_kept, member_found}
use Rattle.memberships.proofs.table.Memberships.nth_member.Goals as goal

pub returns-in_err-person : goal.returns-in_err-person
returns-in_err-person c =
    let none = none_of _ _ c.args.place c.list.ensures c.in_err-person.ensures.lookup.3 in
    rw (← c.self.view_is)
    (c.from_residual.ensures
    ∙ sym (ap (option_map member_of)
    (conference_none _ _ _ _ c.self.invariant.0 c.args.conference c.args.place none)))

-- the membership of a person in the list of a conference is kept
pub returns-in_err-kept : goal.returns-in_err-kept
returns-in_err-kept c =
    let gives = c.in_ok-person.ensures.lookup in
    let at = element_of _ _ c.args.place c.in_ok-person.field-0.now c.list.ensures gives.3.0 gives.1 in
    let there = conference_kept _ _ _ _ c.self.invariant.0 c.args.conference c.args.place c.in_ok-person.field-0.now
    at in
    absurd (false≢true (ap is_some (ap option_copied (sym c.in_err-kept.was) ∙ c.get-2.ensures.value) ∙ there))

pub returns : goal.returns
returns c =
    let gives = c.in_ok-person.ensures.lookup in
    let at = element_of _ _ c.args.place c.in_ok-person.field-0.now c.list.ensures gives.3.0 gives.1 in
    let there = sym c.get-2.ensures.value ∙ ap option_copied c.in_ok-kept.was in
    rw (← c.self.view_is)
    (ap Some (c.member.ensures c.args.conference
    (place_of c.args.conference (list_of c.self.inside.conferences c.in_ok-person.field-0.now)))
    ∙ sym (ap (option_map member_of)
    (member_found _ _ _ _ c.self.invariant.0 c.args.conference c.args.place c.in_ok-person.field-0.now
    c.in_ok-kept.kept.now at there)))
