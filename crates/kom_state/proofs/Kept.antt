-- What is kept of the rows stays so as effects that fit are made.
use Rattle.std.proofs.Common.{◌≡◌, ℕ, ◌<◌, ◌≤◌, true, false, List, map, None, refl, sym, ap, ◌∙◌, arith}
use Rattle.std.proofs.lemmas.Bool.{and_parts, not-true, leb-true}
use Rattle.kom_types.specs.declared.limits.TheConstants.{LAST_CONFERENCE}
use Rattle.row_table.specs.Tables.{changed_row}
use Rattle.kom_types.specs.declared.effects.Counter.{Counter}
use Rattle.kom_types.specs.declared.effects.Counter.TheVariants as counter
use Rattle.kom_types.specs.declared.effects.Effect.{Effect}
use Rattle.kom_types.specs.declared.effects.Effect.TheVariants as effect
use Rattle.kom_types.specs.declared.effects.PersonField.{PersonField}
use Rattle.kom_types.specs.declared.effects.PersonField.TheVariants as person_field
use Rattle.kom_types.specs.declared.persons.PersonRow.{PersonRow}
use Rattle.kom_types.specs.tables.Conferences as Conferences
use Rattle.kom_types.specs.tables.Persons as Persons
use Rattle.kom_types.specs.tables.Persons.{number_of_person, fresh_person, count_up}
use Rattle.kom_model.specs.Db.{Db, conference_of, conferences_of}
use Rattle.kom_model.specs.Effects.{fits, after_effect, may_name}
use Rattle.kom_model.specs.Whole.{IsWhole}
use Rattle.kom_model.proofs.whole.Effects.{made-whole}
use Rattle.name_lookup.specs.NamedRows.{Named, with_name, without_name, clash_of}
use Rattle.kom_state.specs.Keeping.{name_row, DrawFromOne, IsKept}
use Rattle.kom_state.proofs.Names.{names-with_row, names-without_row, names-kept, names-renamed, name-with_field}
use Rattle.kom_state.proofs.Names.{taken-free}
use Rattle.kom_state.proofs.TableRows.{all_with_row, all_without_row, all_changed_row}

-- ---- the names of the conferences
-- the names after an effect
abbrev pub names_made : Effect → List Named → List Named
names_made (effect.ConfAdded number name kind at creator supervisor) names = with_name number name names
names_made (effect.ConfGone number) names = without_name number names
names_made (effect.ConfNamed number name) names = with_name number name names
names_made other names = names

made-names : (what : Effect) (db : Db) → fits what db ≡ true → IsWhole db →
    map name_row (after_effect what db).conferences ≡ names_made what (map name_row db.conferences)
unfolding fits after_effect conference_of
made-names (effect.ConfAdded number name kind at creator supervisor) db fit whole = names-with_row _ db.conferences
made-names (effect.ConfGone number) db fit whole = names-without_row number db.conferences
made-names (effect.ConfNamed number name) db fit whole =
    names-renamed number name db.conferences whole.conferences.rising (and_parts _ _ fit).0
made-names (effect.ConfField number what) db fit whole =
    names-kept number (Conferences.with_field what) db.conferences (name-with_field what)
made-names (effect.PersonAdded number privileges flags last_login) db fit whole = refl
made-names (effect.PersonGone number) db fit whole = refl
made-names (effect.PersonField number what) db fit whole = refl
made-names (effect.Password number hash) db fit whole = refl
made-names (effect.LoggedIn number at user) db fit whole = refl
made-names (effect.Counted number counter by) db fit whole = refl
made-names (effect.TextAdded number author at body) db fit whole = refl
made-names (effect.TextGone number) db fit whole = refl
made-names (effect.RecipientAdded given) db fit whole =
    names-kept given.conference (Conferences.with_local_drawn given.local) db.conferences (λ row. refl)
made-names (effect.RecipientGone text conference) db fit whole = refl
made-names (effect.LinkAdded given) db fit whole = refl
made-names (effect.LinkGone child parent footnote) db fit whole = refl
made-names (effect.MemberSet person conference position priority added_by added_at kind) db fit whole = refl
made-names (effect.MemberGone person conference) db fit whole = refl
made-names (effect.ReadSet person conference at ranges) db fit whole = refl
made-names (effect.MarkSet person text kind) db fit whole = refl
made-names (effect.MarkGone person text) db fit whole = refl
made-names (effect.AuxAdded true object item) db fit whole = refl
made-names (effect.AuxAdded false object item) db fit whole =
    names-kept object (Conferences.with_item_drawn item.number) db.conferences (λ row. refl)
made-names (effect.AuxGone on_text object number) db fit whole = refl
made-names (effect.Created person local text) db fit whole = refl

-- ---- the number that a person gives to its next text
field-positive : (what : PersonField) (row : PersonRow) → 0 < row.next_created →
    0 < (Persons.with_field what row).next_created
field-positive (person_field.Privileges privileges) row positive = positive
field-positive (person_field.Flags flags) row positive = positive
field-positive (person_field.UserArea text) row positive = positive

counted-positive : (what : Counter) (by : ℕ) (row : PersonRow) → 0 < row.next_created →
    0 < (count_up what by row).next_created
counted-positive counter.TimePresent by row positive = positive
counted-positive counter.CreatedLines by row positive = positive
counted-positive counter.CreatedBytes by row positive = positive
counted-positive counter.ReadTexts by row positive = positive
counted-positive counter.TextFetches by row positive = positive
counted-positive counter.CreatedPersons by row positive = positive
counted-positive counter.CreatedConferences by row positive = positive

changed-from_one : (number : ℕ) (change : PersonRow → PersonRow) →
    ((row : PersonRow) → 0 < row.next_created → 0 < (change row).next_created) → (rows : List PersonRow) →
    DrawFromOne rows → DrawFromOne (changed_row number_of_person number change rows)
changed-from_one number change keeps rows from =
    all_changed_row number_of_person (λ row. 0 < row.next_created) number change keeps rows from

made-from_one : (what : Effect) (db : Db) → DrawFromOne db.persons → DrawFromOne (after_effect what db).persons
unfolding after_effect
made-from_one (effect.ConfAdded number name kind at creator supervisor) db from = from
made-from_one (effect.ConfGone number) db from = from
made-from_one (effect.ConfNamed number name) db from = from
made-from_one (effect.ConfField number what) db from = from
made-from_one (effect.PersonAdded number privileges flags last_login) db from =
    all_with_row number_of_person (λ row. 0 < row.next_created) (fresh_person number privileges flags last_login)
    db.persons (omega arith) from
made-from_one (effect.PersonGone number) db from =
    all_without_row number_of_person (λ row. 0 < row.next_created) number db.persons from
made-from_one (effect.PersonField number what) db from =
    changed-from_one number (Persons.with_field what) (field-positive what) db.persons from
made-from_one (effect.Password number hash) db from =
    changed-from_one number (Persons.with_hash hash) (λ row positive. positive) db.persons from
made-from_one (effect.LoggedIn number at user) db from =
    changed-from_one number (Persons.logged_in at user) (λ row positive. positive) db.persons from
made-from_one (effect.Counted number counter by) db from =
    changed-from_one number (count_up counter by) (counted-positive counter by) db.persons from
made-from_one (effect.TextAdded number author at body) db from = from
made-from_one (effect.TextGone number) db from = from
made-from_one (effect.RecipientAdded given) db from = from
made-from_one (effect.RecipientGone text conference) db from = from
made-from_one (effect.LinkAdded given) db from = from
made-from_one (effect.LinkGone child parent footnote) db from = from
made-from_one (effect.MemberSet person conference position priority added_by added_at kind) db from = from
made-from_one (effect.MemberGone person conference) db from = from
made-from_one (effect.ReadSet person conference at ranges) db from = from
made-from_one (effect.MarkSet person text kind) db from = from
made-from_one (effect.MarkGone person text) db from = from
made-from_one (effect.AuxAdded true object item) db from = from
made-from_one (effect.AuxAdded false object item) db from = from
made-from_one (effect.AuxGone on_text object number) db from = from
made-from_one (effect.Created person local text) db from =
    changed-from_one person (Persons.with_created_drawn local) (λ row positive. omega arith) db.persons from

-- ---- all that is kept
pub IsKept-made : (what : Effect) (old new : Db) (names new_names : List Named) → IsKept old names →
    fits what old ≡ true → new ≡ after_effect what old → new_names ≡ names_made what names → IsKept new new_names
IsKept-made what old new names new_names kept fit is names_are = rw is (record {
  whole = made-whole what old fit kept.whole;
  same_names = names_are ∙ ap (names_made what) kept.same_names ∙ sym (made-names what old fit kept.whole);
  from_one = made-from_one what old kept.from_one;
})

-- ---- a name that may be given
-- no other number has it
pub taken-kept : (db : Db) (names : List Named) → IsKept db names → (number : ℕ) (name : List ℕ) →
    may_name db number name ≡ true → clash_of name (without_name number names) ≡ None
unfolding conferences_of
taken-kept db names kept number name may =
    rw kept.same_names (taken-free number name db.conferences (not-true _ (and_parts _ _ may).1))

pub added-parts : (db : Db) (number : ℕ) (name : List ℕ) (kind at creator supervisor : ℕ) →
    fits (effect.ConfAdded number name kind at creator supervisor) db ≡ true →
    (may_name db number name ≡ true) × (number ≤ LAST_CONFERENCE)
unfolding fits
added-parts db number name kind at creator supervisor fit =
    let named = and_parts _ _ (and_parts _ _ fit).0 in
    (named.1, leb-true _ _ (and_parts _ _ (and_parts _ _ named.0).0).1)
