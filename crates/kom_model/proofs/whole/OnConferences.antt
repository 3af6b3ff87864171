-- Effects on conferences leave whole rows.
use Rattle.std.proofs.Common.{◌≡◌, ℕ, ◌+◌, ◌≤◌, Bool, true, false, not, ◌==◌, List, [], ◌∷◌}
use Rattle.std.proofs.Common.{length, Option, Some, None, refl, sym, ◌∙◌, arith, eqb-true}
use Rattle.std.specs.Prelude.{map, is_none}
use Rattle.std.specs.List.{filter}
use Rattle.std.proofs.lemmas.Bool.{and_parts, leb-true, not-true}
use Rattle.std.proofs.lemmas.Bool.{not_from_false}
use Rattle.row_table.specs.Tables.{row_of, changed_row, with_row, without_row}
use Rattle.kom_types.specs.Bits.{alike}
use Rattle.kom_types.specs.declared.aux_items.ItemRow.{ItemRow}
use Rattle.kom_types.specs.declared.conferences.ConferenceRow.{ConferenceRow}
use Rattle.kom_types.specs.declared.effects.ConfField.{ConfField}
use Rattle.kom_types.specs.declared.effects.ConfField.TheVariants as field
use Rattle.kom_types.specs.declared.effects.Effect.TheVariants as effect
use Rattle.kom_types.specs.tables.AuxItems.{is_item_of}
use Rattle.kom_types.specs.tables.Conferences as Conferences
use Rattle.kom_types.specs.tables.Conferences.{number_of_conference, is_letterbox, with_name, fresh_conference}
use Rattle.kom_types.specs.tables.Conferences.{is_secret_protected}
use Rattle.kom_types.specs.tables.Persons.{number_of_person}
use Rattle.kom_model.specs.Db.{Db, conference_of, person_of, members_of, locals_of, conferences_of, items_of}
use Rattle.kom_model.specs.Effects.{fits, after_effect, may_set}
use Rattle.kom_model.specs.Whole.{IsWhole}
use Rattle.kom_model.proofs.Fields.{field-number}
use Rattle.kom_model.proofs.whole.Conferences.{conferences-more, conferences-fewer, conferences-same, conferences-named}
use Rattle.kom_model.proofs.whole.Counts.{all-weaker, none-counted, none-found}
use Rattle.kom_model.proofs.whole.Stays.{ConferenceStays, conferences-added, conferences-gone, conferences-changed}
use Rattle.kom_model.proofs.whole.Stays.{persons-housed, memberships-held, recipients-held, items-held, other_than}
use Rattle.kom_model.proofs.whole.Stays.{conferences-whole, same-number}

-- two bits that are alike
box-kept : (one other : Bool) → alike one other ≡ true → other ≡ true → one ≡ true
box-kept true other same is = refl
box-kept false true same is = same
box-kept false false same is = is

-- a field that may be set in a row leaves a letterbox one, and what it drew
field-box : (what : ConfField) (row : ConferenceRow) → may_set what row ≡ true → is_letterbox row.kind ≡ true →
    is_letterbox (Conferences.with_field what row).kind ≡ true
field-box (field.Kind kind) row may is =
    box-kept (is_letterbox kind) (is_letterbox row.kind) (and_parts (is_secret_protected kind) _ may).1 is
field-box (field.Presentation text) row may is = is
field-box (field.Motd text) row may is = is
field-box (field.Supervisor number) row may is = is
field-box (field.PermittedSubmitters number) row may is = is
field-box (field.SuperConference number) row may is = is
field-box (field.Nice days) row may is = is
field-box (field.KeepCommented days) row may is = is
field-box (field.Expire days) row may is = is
field-box (field.LastWritten at) row may is = is

field-next : (what : ConfField) (row : ConferenceRow) → row.next_local ≤ (Conferences.with_field what row).next_local
field-next (field.Presentation text) row = same-number row.next_local
field-next (field.Motd text) row = same-number row.next_local
field-next (field.Supervisor number) row = same-number row.next_local
field-next (field.PermittedSubmitters number) row = same-number row.next_local
field-next (field.SuperConference number) row = same-number row.next_local
field-next (field.Kind kind) row = same-number row.next_local
field-next (field.Nice days) row = same-number row.next_local
field-next (field.KeepCommented days) row = same-number row.next_local
field-next (field.Expire days) row = same-number row.next_local
field-next (field.LastWritten at) row = same-number row.next_local

field-item : (what : ConfField) (row : ConferenceRow) → row.next_item ≤ (Conferences.with_field what row).next_item
field-item (field.Presentation text) row = same-number row.next_item
field-item (field.Motd text) row = same-number row.next_item
field-item (field.Supervisor number) row = same-number row.next_item
field-item (field.PermittedSubmitters number) row = same-number row.next_item
field-item (field.SuperConference number) row = same-number row.next_item
field-item (field.Kind kind) row = same-number row.next_item
field-item (field.Nice days) row = same-number row.next_item
field-item (field.KeepCommented days) row = same-number row.next_item
field-item (field.Expire days) row = same-number row.next_item
field-item (field.LastWritten at) row = same-number row.next_item

field-stays : (what : ConfField) (row : ConferenceRow) → may_set what row ≡ true →
    ConferenceStays (Conferences.with_field what) row
field-stays what row may = record {
  letterbox = field-box what row may;
  local = field-next what row;
  item = field-item what row;
}

field-name : (what : ConfField) (row : ConferenceRow) → (Conferences.with_field what row).name ≡ row.name
field-name (field.Presentation text) row = refl
field-name (field.Motd text) row = refl
field-name (field.Supervisor conference) row = refl
field-name (field.PermittedSubmitters conference) row = refl
field-name (field.SuperConference conference) row = refl
field-name (field.Kind kind) row = refl
field-name (field.Nice days) row = refl
field-name (field.KeepCommented days) row = refl
field-name (field.Expire days) row = refl
field-name (field.LastWritten at) row = refl

-- as many are told of as there are
pub told-length : {X Y : Type 0} (tell : X → Y) (rows : List X) → length (map tell rows) ≡ length rows
told-length tell [] = refl
told-length tell (row ∷ rows) = let rest = told-length tell rows in omega (arith, rest)

pub none-told : {X Y : Type 0} (tell : X → Y) (rows : List X) → length (map tell rows) ≡ 0 → length rows ≡ 0
none-told tell rows none = sym (told-length tell rows) ∙ none

-- an item that is not of this conference
item-there : (number : ℕ) (row : ItemRow) → is_item_of false number row ≡ false → row.on_text ≡ false →
    not (row.object == number) ≡ true
item-there number row apart on =
    let there : (row.object == number) ≡ false = rw on at apart in not_from_false _ there

module _ (db : Db) (whole : IsWhole db) where
  pub conf_added-whole : (number : ℕ) (name : List ℕ) (kind at creator supervisor : ℕ) →
      fits (effect.ConfAdded number name kind at creator supervisor) db ≡ true →
      IsWhole (after_effect (effect.ConfAdded number name kind at creator supervisor) db)
  unfolding fits after_effect conference_of conferences_of
  conf_added-whole number name kind at creator supervisor fit =
      let guarded = and_parts _ (is_secret_protected kind) fit in
      let named = and_parts _ _ guarded.0 in
      let free = and_parts _ _ named.1 in
      let absent = and_parts _ _ named.0 in
      let numbers = and_parts _ _ absent.0 in
      let given : ConferenceRow = fresh_conference number name kind at creator supervisor in
      conferences-whole db whole (with_row number_of_conference given db.conferences) (number + 1)
      (conferences-added given db.conferences absent.1)
      (conferences-more db.conferences db.next_conference whole.conferences given (leb-true _ _ numbers.0)
      (leb-true _ _ numbers.1) (leb-true _ _ free.0) (not-true _ free.1))

  pub conf_named-whole : (number : ℕ) (name : List ℕ) → fits (effect.ConfNamed number name) db ≡ true →
      IsWhole (after_effect (effect.ConfNamed number name) db)
  unfolding fits after_effect conferences_of
  conf_named-whole number name fit =
      let named = (and_parts _ _ fit).1 in
      let free = and_parts _ _ named in
      conferences-whole db whole (changed_row number_of_conference number (with_name name) db.conferences)
      db.next_conference (conferences-changed number (with_name name) db.conferences (λ row. refl)
      (λ row found. record {
        letterbox = λ is. is;
        local = same-number row.next_local;
        item = same-number row.next_item;
      }))
      (conferences-named db.conferences db.next_conference whole.conferences number name (leb-true _ _ free.0)
      (not-true _ free.1))

  -- a row that may be there may have its field set so
  may-found : (what : ConfField) (found : Option ConferenceRow) (row : ConferenceRow) → found ≡ Some row →
      (elim found [ None ↦ false | Some row ↦ may_set what row ]) ≡ true → may_set what row ≡ true
  may-found what found row is may = rw is at may

  pub conf_field-whole : (number : ℕ) (what : ConfField) → fits (effect.ConfField number what) db ≡ true →
      IsWhole (after_effect (effect.ConfField number what) db)
  unfolding fits after_effect conference_of
  conf_field-whole number what fit =
      conferences-whole db whole (changed_row number_of_conference number (Conferences.with_field what) db.conferences)
      db.next_conference
      (conferences-changed number (Conferences.with_field what) db.conferences (field-number what)
      (λ row found. field-stays what row
      (may-found what (row_of number_of_conference number db.conferences) row found fit)))
      (conferences-same db.conferences db.next_conference whole.conferences number (Conferences.with_field what)
      (field-number what) (field-name what))

  pub conf_gone-whole : (number : ℕ) → fits (effect.ConfGone number) db ≡ true →
      IsWhole (after_effect (effect.ConfGone number) db)
  unfolding fits after_effect person_of members_of locals_of items_of
  conf_gone-whole number fit =
      let bare = (and_parts _ _ fit).1 in
      let person = and_parts _ (is_none (row_of number_of_person number db.persons)) bare in
      let items = and_parts _ _ person.0 in
      let members = and_parts _ _ items.0 in
      let new = without_row number_of_conference number db.conferences in
      let stay = conferences-gone number db.conferences in
      record {
        conferences = conferences-fewer db.conferences db.next_conference whole.conferences number;
        persons = persons-housed (other_than number) db.conferences new stay db.persons
            (all-weaker (λ row. (row.number == number) ≡ false) (λ row. not (row.number == number) ≡ true)
            (λ row there. not_from_false _ there) db.persons
            (none-found (λ row. row.number == number) db.persons person.1)) whole.persons;
        texts = whole.texts;
        memberships = memberships-held (other_than number) db.conferences new stay db.memberships db.reads db.persons
            (all-weaker (λ row. (row.conference == number) ≡ false) (λ row. not (row.conference == number) ≡ true)
            (λ row there. not_from_false _ there) db.memberships
            (none-counted (λ row. row.conference == number) db.memberships (eqb-true _ _ members.1)))
            whole.memberships;
        recipients = recipients-held (other_than number) db.conferences new stay db.recipients db.texts
            (all-weaker (λ row. (row.conference == number) ≡ false) (λ row. not (row.conference == number) ≡ true)
            (λ row there. not_from_false _ there) db.recipients
            (none-counted (λ row. row.conference == number) db.recipients
            (none-told _ (filter (λ row. row.conference == number) db.recipients) (eqb-true _ _ members.0))))
            whole.recipients;
        links = whole.links;
        marks = whole.marks;
        items = items-held (other_than number) db.conferences new stay db.items db.texts
            (all-weaker (λ row. is_item_of false number row ≡ false)
            (λ row. row.on_text ≡ false → not (row.object == number) ≡ true) (item-there number) db.items
            (none-counted (is_item_of false number) db.items
            (none-told _ (filter (is_item_of false number) db.items) (eqb-true _ _ items.1)))) whole.items;
      }
