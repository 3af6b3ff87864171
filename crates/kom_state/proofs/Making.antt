-- What an effect makes of the stored rows as they are kept, and the room that it leaves.
use Rattle.std.proofs.Common.{◌≡◌, ℕ, ◌+◌, ◌<◌, ◌≤◌, true, eqb, List, [], ◌∷◌, None, refl, sym, ap, subst, ◌∙◌, arith}
use Rattle.std.proofs.Common.{Bool, cond, ◌⊎◌, inl, inr, count_by}
use Rattle.std.proofs.lemmas.Option.{none-some}
use Rattle.kom_types.specs.declared.effects.Effect.TheVariants as effect
use Rattle.kom_types.specs.tables.Conferences.{number_of_conference, fresh_conference}
use Rattle.kom_types.specs.tables.Memberships.{with_membership}
use Rattle.kom_types.specs.tables.Persons.{number_of_person, fresh_person}
use Rattle.std.proofs.lemmas.Bool.{eq-eqb, cases_eq, ne_eqb}
use Rattle.row_table.specs.Tables.{Tabled, with_row, without_row, changed_row}
use Rattle.kom_types.specs.declared.conferences.ConferenceRow.{ConferenceRow}
use Rattle.kom_types.specs.declared.effects.Effect.{Effect}
use Rattle.kom_types.specs.declared.memberships.MembershipRow.{MembershipRow}
use Rattle.kom_types.specs.declared.persons.PersonRow.{PersonRow}
use Rattle.aux_items.specs.Items.{Attached, room_on}
use Rattle.kom_types.specs.declared.aux_items.ItemRow.{ItemRow}
use Rattle.kom_model.specs.Db.{Db}
use Rattle.kom_model.specs.Effects.{after_effect, with_changed_conference, with_changed_person}
use Rattle.memberships.specs.Table.{Table, UsesRoom, KeepsRoom, room_of_person, room_of_conference}
use Rattle.read_ranges.specs.Reads.{ReadRow, with_reader}
use Rattle.row_slots.specs.Lists.{room_in}
use Rattle.name_lookup.specs.NamedRows.{Lookup}
use Rattle.texts.specs.Stored.{TextRows, Stored as Texts}
use Rattle.texts.specs.Needs.{UsesRoom as UsesTextRoom}
use Rattle.kom_state.specs.Keeping.{as_stored}
use Rattle.kom_state.specs.Room.{Room, Stored, IsMade, HasRoom, set_of, name_given, sets_membership, sets_for_person}
use Rattle.kom_state.specs.Room.{sets_in_conference, needs_of, adds_item, adds_item_to}
use Rattle.kom_state.proofs.Using.{Uses, HasRoom-after, count_by-cons}

pub IsMade-using : (what : Effect) (old new : Stored) → new.db ≡ after_effect what old.db →
    Uses what old.room new.room →
    IsMade what old new
IsMade-using what old new db uses = record { db = db; room = HasRoom-after what old.room new.room uses }

-- one person is changed
pub IsMade-person : {items : Attached} → (what : Effect) (number : ℕ) (change : PersonRow →
    PersonRow) (conferences : Tabled ConferenceRow)
    (old new : Tabled PersonRow) (memberships : Table) (names : Lookup) (texts : Texts) (next next_text : ℕ) →
    ((db : Db) → after_effect what db ≡ with_changed_person number change db) →
    new.rows ≡ changed_row number_of_person number change old.rows → old.spare ≤ new.spare →
    IsMade what (as_stored conferences old memberships names texts items next next_text)
    (as_stored conferences new memberships names texts items next next_text)
IsMade-person {items} what number change conferences old new memberships names texts next next_text makes rows spare =
    IsMade-using what _ _
    (ap (λ rows. record (as_stored conferences old memberships names texts items next next_text).db { persons = rows })
    rows
    ∙ sym (makes (as_stored conferences old memberships names texts items next next_text).db))
    (record {
      conferences = omega arith;
      persons = omega arith;
      memberships = omega arith;
      of_person = λ number. omega arith;
      of_conference = λ number. omega arith;
      name = λ _. refl;
      texts = λ need. omega arith;
      items = omega arith;
      of_objects = λ kind other. omega arith;
    })

-- one conference is changed, and may have another name
pub IsMade-conference : {items : Attached} → (what : Effect) (number : ℕ) (change : ConferenceRow → ConferenceRow)
    (old new : Tabled ConferenceRow) (persons : Tabled PersonRow) (memberships : Table) (names new_names : Lookup)
    (texts : Texts) (next next_text : ℕ) →
    ((db : Db) → after_effect what db ≡ with_changed_conference number change db) →
    new.rows ≡ changed_row number_of_conference number change old.rows → old.spare ≤ new.spare →
    (name_given what ≡ None → new_names.ready ≡ names.ready) →
    IsMade what (as_stored old persons memberships names texts items next next_text)
    (as_stored new persons memberships new_names texts items next next_text)
IsMade-conference {items} what number change old new persons memberships names new_names texts next next_text makes
    rows spare
    ready =
    IsMade-using what _ _
    (ap (λ rows. record (as_stored old persons memberships names texts items next next_text).db { conferences = rows })
    rows
    ∙ sym (makes (as_stored old persons memberships names texts items next next_text).db))
    (record {
      conferences = omega arith;
      persons = omega arith;
      memberships = omega arith;
      of_person = λ number. omega arith;
      of_conference = λ number. omega arith;
      name = ready;
      texts = λ need. omega arith;
      items = omega arith;
      of_objects = λ kind other. omega arith;
    })

pub IsMade-added : {items : Attached} → (number : ℕ) (name : List ℕ) (kind at creator supervisor : ℕ)
    (old new : Tabled ConferenceRow)
    (persons : Tabled PersonRow) (memberships : Table) (names new_names : Lookup) (texts : Texts) (next next_text : ℕ) →
    new.rows ≡ with_row number_of_conference (fresh_conference number name kind at creator supervisor) old.rows →
    old.spare ≤ new.spare + 1 →
    IsMade (effect.ConfAdded number name kind at creator supervisor)
    (as_stored old persons memberships names texts items next next_text)
    (as_stored new persons memberships new_names texts items (number + 1) next_text)
unfolding after_effect
IsMade-added {items} number name kind at creator supervisor old new persons memberships names new_names texts next
    next_text
    rows spare =
    IsMade-using _ _ _
    (ap (λ rows. (as_stored (record new { rows = rows }) persons memberships new_names texts items (number + 1)
    next_text).db)
    rows)
    (record {
      conferences = omega arith;
      persons = omega arith;
      memberships = omega arith;
      of_person = λ number. omega arith;
      of_conference = λ number. omega arith;
      name = λ none. absurd (none-some name (sym none));
      texts = λ need. omega arith;
      items = omega arith;
      of_objects = λ kind other. omega arith;
    })

-- a conference is taken away, with its name
pub IsMade-conference_gone : {items : Attached} → (number : ℕ) (old new : Tabled ConferenceRow)
    (persons : Tabled PersonRow)
    (memberships : Table) (names new_names : Lookup) (texts : Texts) (next next_text : ℕ) →
    new.rows ≡ without_row number_of_conference number old.rows → old.spare ≤ new.spare →
    new_names.ready ≡ names.ready →
    IsMade (effect.ConfGone number) (as_stored old persons memberships names texts items next next_text)
    (as_stored new persons memberships new_names texts items next next_text)
unfolding after_effect
IsMade-conference_gone {items} number old new persons memberships names new_names texts next next_text rows spare
    ready =
    IsMade-using _ _ _
    (ap (λ rows. (as_stored (record new { rows = rows }) persons memberships new_names texts items next next_text).db)
    rows)
    (record {
      conferences = omega arith;
      persons = omega arith;
      memberships = omega arith;
      of_person = λ number. omega arith;
      of_conference = λ number. omega arith;
      name = λ _. ready;
      texts = λ need. omega arith;
      items = omega arith;
      of_objects = λ kind other. omega arith;
    })

pub IsMade-joined : {items : Attached} → (number privileges flags last_login : ℕ) (conferences : Tabled ConferenceRow)
    (old new : Tabled PersonRow) (memberships : Table) (names : Lookup) (texts : Texts) (next next_text : ℕ) →
    new.rows ≡ with_row number_of_person (fresh_person number privileges flags last_login) old.rows →
    old.spare ≤ new.spare + 1 →
    IsMade (effect.PersonAdded number privileges flags last_login)
    (as_stored conferences old memberships names texts items next next_text)
    (as_stored conferences new memberships names texts items next next_text)
unfolding after_effect
IsMade-joined {items} number privileges flags last_login conferences old new memberships names texts next next_text
    rows spare =
    IsMade-using _ _ _
    (ap (λ rows. (as_stored conferences (record new { rows = rows }) memberships names texts items next next_text).db)
    rows)
    (record {
      conferences = omega arith;
      persons = omega arith;
      memberships = omega arith;
      of_person = λ number. omega arith;
      of_conference = λ number. omega arith;
      name = λ _. refl;
      texts = λ need. omega arith;
      items = omega arith;
      of_objects = λ kind other. omega arith;
    })

-- ---- texts
-- texts are changed, and what is drawn of a conference and a person
pub record Changes (what : Effect) (old_conferences new_conferences : Tabled ConferenceRow)
    (old_persons new_persons : Tabled PersonRow) (old new : Texts) (conference_rows : List ConferenceRow)
    (person_rows : List PersonRow) (rows : TextRows) : Type 0 where
  pub conferences : new_conferences.rows ≡ conference_rows
  pub conference_spare : old_conferences.spare ≤ new_conferences.spare
  pub persons : new_persons.rows ≡ person_rows
  pub person_spare : old_persons.spare ≤ new_persons.spare
  pub texts : new.rows ≡ rows
  pub room : UsesTextRoom old.room new.room (needs_of what)

pub IsMade-texts : {items : Attached} → (what : Effect) (old_conferences new_conferences : Tabled ConferenceRow)
    (old_persons new_persons : Tabled PersonRow) (memberships : Table) (names : Lookup) (old new : Texts)
    (next next_text new_next_text : ℕ) (conference_rows : List ConferenceRow) (person_rows : List PersonRow)
    (rows : TextRows) →
    (as_stored (record new_conferences { rows = conference_rows }) (record new_persons { rows = person_rows })
    memberships names (record new { rows = rows }) items next new_next_text).db
    ≡ after_effect what (as_stored old_conferences old_persons memberships names old items next next_text).db →
    Changes what old_conferences new_conferences old_persons new_persons old new conference_rows person_rows rows →
    IsMade what (as_stored old_conferences old_persons memberships names old items next next_text)
    (as_stored new_conferences new_persons memberships names new items next new_next_text)
IsMade-texts {items} what old_conferences new_conferences old_persons new_persons memberships names old new next
    next_text
    new_next_text conference_rows person_rows rows db changes =
    IsMade-using what _ _ (rw (changes.conferences, changes.persons, changes.texts) db) (record {
      conferences =
          let kept : old_conferences.spare ≤ new_conferences.spare = changes.conference_spare in omega arith;
      persons = let kept : old_persons.spare ≤ new_persons.spare = changes.person_spare in omega arith;
      memberships = omega arith;
      of_person = λ number. omega arith;
      of_conference = λ number. omega arith;
      name = λ _. refl;
      texts = changes.room;
      items = omega arith;
      of_objects = λ kind other. omega arith;
    })

-- ---- aux-items
-- aux-items are changed, and what is drawn of a text, or a conference
pub record ItemChanges (what : Effect) (old_conferences new_conferences : Tabled ConferenceRow) (old new : Texts)
    (old_items new_items : Attached) (conference_rows : List ConferenceRow) (rows : TextRows)
    (item_rows : List ItemRow) : Type 0 where
  pub conferences : new_conferences.rows ≡ conference_rows
  pub conference_spare : old_conferences.spare ≤ new_conferences.spare
  pub texts : new.rows ≡ rows
  pub room : UsesTextRoom old.room new.room (needs_of what)
  pub items : new_items.rows ≡ item_rows
  pub spare : old_items.spare ≤ new_items.spare + cond (adds_item what) 1 0
  pub of_objects : (kind : Bool) (other : ℕ) → room_on old_items kind other
      ≤ room_on new_items kind other + cond (adds_item_to kind other what) 1 0

pub IsMade-items : (what : Effect) (old_conferences new_conferences : Tabled ConferenceRow)
    (persons : Tabled PersonRow) (memberships : Table) (names : Lookup) (old new : Texts)
    (old_items new_items : Attached) (next next_text : ℕ) (conference_rows : List ConferenceRow) (rows : TextRows)
    (item_rows : List ItemRow) →
    (as_stored (record new_conferences { rows = conference_rows }) persons memberships names
    (record new { rows = rows }) (record new_items { rows = item_rows }) next next_text).db
    ≡ after_effect what (as_stored old_conferences persons memberships names old old_items next next_text).db →
    ItemChanges what old_conferences new_conferences old new old_items new_items conference_rows rows item_rows →
    IsMade what (as_stored old_conferences persons memberships names old old_items next next_text)
    (as_stored new_conferences persons memberships names new new_items next next_text)
IsMade-items what old_conferences new_conferences persons memberships names old new old_items new_items next next_text
    conference_rows rows item_rows db changes =
    IsMade-using what _ _ (rw (changes.conferences, changes.texts, changes.items) db) (record {
      conferences =
          let kept : old_conferences.spare ≤ new_conferences.spare = changes.conference_spare in omega arith;
      persons = omega arith;
      memberships = omega arith;
      of_person = λ number. omega arith;
      of_conference = λ number. omega arith;
      name = λ _. refl;
      texts = changes.room;
      items = changes.spare;
      of_objects = changes.of_objects;
    })

-- ---- memberships
room_for : (p : Effect → Bool) (what : Effect) (room : ℕ) → p what ≡ true → count_by p (what ∷ []) ≤ room → 0 < room
room_for p what room does has =
    let one : cond {A = ℕ} (p what) 1 0 ≡ 1 = rw does refl in omega (arith, count_by-cons p what [], one, has)

pub room_to_set : (room : Room) (row : MembershipRow) → HasRoom room (set_of row ∷ []) →
    (0 < room.memberships) × (0 < room_in room.of_person row.person) × (0 < room_in room.of_conference row.conference)
room_to_set room row has = (
  room_for sets_membership (set_of row) _ refl has.memberships,
  room_for (sets_for_person row.person) (set_of row) _ (eq-eqb row.person row.person refl) (has.of_person row.person),
  room_for (sets_in_conference row.conference) (set_of row) _ (eq-eqb row.conference row.conference refl)
      (has.of_conference row.conference),
)

-- room that falls at one number alone
falls_at : (at number old new : ℕ) → (number ≡ at → old ≤ new + 1) → ((number ≡ at → ⊥) → old ≤ new) →
    old ≤ new + cond (eqb at number) 1 0
falls_at at number old new here other = by (cases_eq number at)
  where
    by : (number ≡ at) ⊎ (number ≡ at → ⊥) → old ≤ new + cond (eqb at number) 1 0
    by (inl same) = rw (eq-eqb at number (sym same)) (here same)
    by (inr apart) = let le : old ≤ new = other apart in rw (ne_eqb at number (λ e. apart (sym e))) (omega arith)

-- memberships and what was read in them are changed, and no room falls
pub IsMade-members : {items : Attached} → (what : Effect) (change : List MembershipRow → List MembershipRow)
    (reads : List ReadRow → List ReadRow) (conferences : Tabled ConferenceRow) (persons : Tabled PersonRow)
    (old new : Table) (names : Lookup) (texts : Texts) (next next_text : ℕ) →
    ((db : Db) → after_effect what db ≡ record db { memberships = change db.memberships; reads = reads db.reads }) →
    new.rows ≡ change old.rows → new.reads ≡ reads old.reads → KeepsRoom old new →
    IsMade what (as_stored conferences persons old names texts items next next_text)
    (as_stored conferences persons new names texts items next next_text)
IsMade-members {items} what change reads conferences persons old new names texts next next_text makes rows read keeps =
    IsMade-using what _ _
    (ap (λ rows. (as_stored conferences persons (record new { rows = rows }) names texts items next next_text).db) rows
    ∙ ap (λ reads. (as_stored conferences persons (record new { rows = change old.rows; reads = reads }) names texts
    items next
    next_text).db) read
    ∙ sym (makes (as_stored conferences persons old names texts items next next_text).db))
    (record {
      conferences = omega arith;
      persons = omega arith;
      memberships = let spare = keeps.spare in omega (arith, spare);
      of_person = λ number. let persons = keeps.persons number in omega (arith, persons);
      of_conference = λ number. let conferences = keeps.conferences number in omega (arith, conferences);
      name = λ _. refl;
      texts = λ need. omega arith;
      items = omega arith;
      of_objects = λ kind other. omega arith;
    })

pub IsMade-set : {items : Attached} → (row : MembershipRow) (conferences : Tabled ConferenceRow)
    (persons : Tabled PersonRow)
    (old new : Table) (names : Lookup) (texts : Texts) (next next_text : ℕ) → row.last_time_read ≡ row.added_at →
    new.rows ≡ with_membership row old.rows → new.reads ≡ with_reader row.person row.conference old.reads →
    UsesRoom old new row.person row.conference →
    IsMade (set_of row) (as_stored conferences persons old names texts items next next_text)
    (as_stored conferences persons new names texts items next next_text)
unfolding after_effect
IsMade-set {items} row conferences persons old new names texts next next_text fresh rows read uses =
    IsMade-using (set_of row) _ _
    (ap (λ rows. (as_stored conferences persons (record new { rows = rows }) names texts items next next_text).db) (rows
    ∙ ap (λ at. with_membership (record row { last_time_read = at }) old.rows) fresh)
    ∙ ap (λ reads. (as_stored conferences persons (record new {
      rows = with_membership (record row { last_time_read = row.added_at }) old.rows;
      reads = reads;
    }) names texts items next next_text).db) read)
    (record {
      conferences = omega arith;
      persons = omega arith;
      memberships = uses.spare;
      of_person = λ number. falls_at row.person number _ _
          (λ e. subst (λ n. room_of_person old n ≤ room_of_person new n + 1) (sym e) uses.of_person)
          (uses.other_persons number);
      of_conference = λ number. falls_at row.conference number _ _
          (λ e. subst (λ n. room_of_conference old n ≤ room_of_conference new n + 1) (sym e) uses.of_conference)
          (uses.other_conferences number);
      name = λ _. refl;
      texts = λ need. omega arith;
      items = omega arith;
      of_objects = λ kind other. omega arith;
    })
