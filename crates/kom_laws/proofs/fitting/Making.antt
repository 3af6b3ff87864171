-- What the calls that make conferences and persons come to fits.
use Rattle.std.proofs.Common.{◌≡◌, ℕ, ◌<◌, Bool, true, false, cond, not, ◌==◌, ◌&&◌, List, [], ◌∷◌, ◌++◌, length}
use Rattle.std.proofs.Common.{Option, Some, None, refl, sym, ap, ◌∙◌, inl, inr, arith, eq-eqb, nat_le, nat_lt}
use Rattle.std.proofs.Common.{true≢false}
use Rattle.std.specs.Prelude.{map, is_some, is_none}
use Rattle.std.specs.List.{AllByRecursion, filter, find, list_any}
use Rattle.std.proofs.lemmas.Bool.{cases_Bool, and_from, and_right, or_parts, or_from, or_right, le-leb}
use Rattle.std.proofs.lemmas.Bool.{lt-ltb, ne_eqb, not-true, not_from_false, false_from_ne_true}
use Rattle.std.proofs.lemmas.Bool.{and_parts, eqb-true}
use Rattle.kom_types.specs.declared.limits.TheConstants.{LAST_CONFERENCE, LONGEST_PASSWORD, MOST_MEMBERSHIPS}
use Rattle.row_table.specs.Tables.{row_of, with_row}
use Rattle.row_table.proofs.Rows.{row_of-with_row}
use Rattle.kom_types.specs.AuxItems.{items_from}
use Rattle.kom_types.specs.Bits.{alike}
use Rattle.kom_types.specs.declared.errors.TheConstants as error
use Rattle.kom_types.specs.Names.{clash}
use Rattle.kom_types.specs.declared.aux_items.AuxRow.{AuxRow}
use Rattle.kom_types.specs.declared.aux_items.ItemRow.{ItemRow}
use Rattle.kom_types.specs.declared.aux_items.Object.TheVariants as object
use Rattle.kom_types.specs.declared.conferences.ConferenceRow.{ConferenceRow}
use Rattle.kom_types.specs.declared.conferences.NewConference.{NewConference}
use Rattle.kom_types.specs.declared.effects.Counter.TheVariants as counter
use Rattle.kom_types.specs.declared.effects.Effect.{Effect}
use Rattle.kom_types.specs.declared.effects.Effect.TheVariants as effect
use Rattle.kom_types.specs.declared.memberships.MembershipRow.{MembershipRow}
use Rattle.kom_types.specs.declared.persons.NewPerson.{NewPerson}
use Rattle.kom_types.specs.tables.AuxItems.{is_item_of}
use Rattle.kom_types.specs.tables.Conferences.{number_of_conference, is_letterbox, is_secret_protected}
use Rattle.kom_types.specs.tables.Conferences.{fresh_conference}
use Rattle.kom_types.specs.tables.Memberships as Memberships
use Rattle.kom_types.specs.tables.Persons.{number_of_person, fresh_person, with_hash, password_hash}
use Rattle.kom_model.specs.Db.{Db, conference_of, conferences_of, person_of, memberships_of, items_of}
use Rattle.kom_model.specs.Db.{next_item_of, next_conference_of}
use Rattle.kom_model.specs.Effects.{fits, after_effect, all_fit}
use Rattle.kom_model.specs.State.{AreSeated}
use Rattle.kom_model.specs.Whole.{IsWhole, has_letterbox, has_person, has_drawn_item}
use Rattle.kom_model.specs.calls.AuxItems.{items_added}
use Rattle.kom_model.specs.calls.Call.{Asked}
use Rattle.kom_model.specs.calls.Conferences.{create_conf, create_conf_guard}
use Rattle.kom_model.specs.calls.Guards.{caller, login_guard, name_guard, free_guard, type_guard, drawn_guard, unless}
use Rattle.kom_model.specs.calls.Guards.{size_guard, new_items_guard}
use Rattle.kom_model.specs.calls.Persons.{create_person, create_person_guard, person_effects, maker, letterbox_type}
use Rattle.kom_model.specs.calls.Persons.{first_privileges, highest_priority}
use Rattle.kom_model.specs.calls.Sessions.{counts}
use Rattle.kom_model.proofs.Guards.{all-pass, passed}
use Rattle.kom_model.proofs.whole.Appended.{alike-same}
use Rattle.kom_model.proofs.whole.Counts.{all-weaker, count-none}
use Rattle.kom_model.proofs.whole.Found.{has-with_row, has-changed}
use Rattle.kom_model.proofs.whole.Memberships.{count-memberships}
use Rattle.kom_laws.proofs.fitting.Guards.{caller-there, name-short, name-free}
use Rattle.kom_laws.proofs.fitting.Items.{fit-then, Bears, CanAdd, items-fit, new_items-can, with_items-fit}
use Rattle.kom_laws.proofs.fitting.Sessions.{counts-fit}

-- ---- rows of which none passes a test
pub none-there : {X : Type 0} (test : X → Bool) (rows : List X) → AllByRecursion (λ row. test row ≡ false) rows →
    find test rows ≡ None
none-there test [] none = refl
none-there test (row ∷ rows) none = let fails : test row ≡ false = none.0 in rw fails (none-there test rows none.1)

pub none-kept : {X : Type 0} (test : X → Bool) (rows : List X) → AllByRecursion (λ row. test row ≡ false) rows →
    filter test rows ≡ []
none-kept test [] none = refl
none-kept test (row ∷ rows) none = let fails : test row ≡ false = none.0 in rw fails (none-kept test rows none.1)

-- an object that is not there has no items
pub none-held : (db : Db) → IsWhole db → (on_text : Bool) (object : ℕ) →
    ((number : ℕ) → has_drawn_item db.texts db.conferences on_text object number ≡ false) →
    items_of db on_text object ≡ []
unfolding items_of
none-held db whole on_text object absent = ap (map (λ (row : ItemRow). row.item))
    (none-kept (is_item_of on_text object) db.items
    (all-weaker (λ row. has_drawn_item db.texts db.conferences row.on_text row.object row.item.number ≡ true)
    (λ row. is_item_of on_text object row ≡ false) (λ row drawn. false_from_ne_true _ (λ same.
    let parts = and_parts (alike row.on_text on_text) (row.object == object) same in
    let here : has_drawn_item db.texts db.conferences on_text object row.item.number ≡ true =
    rw (alike-same row.on_text on_text parts.0, eqb-true row.object object parts.1) at drawn in
    true≢false (sym here ∙ absent row.item.number))) db.items whole.items.drawn))

-- ---- the number that the next conference gets
module _ (db : Db) (whole : IsWhole db) where
  abbrev next : ℕ
  next = db.next_conference

  next-absent : row_of number_of_conference next db.conferences ≡ None
  next-absent = none-there (λ row. row.number == next) db.conferences
      (all-weaker (λ row. row.number < next) (λ row. (row.number == next) ≡ false)
      (λ row less. ne_eqb row.number next (λ same. omega (arith, less, same))) db.conferences whole.conferences.drawn)

  -- a name that is free for conference 0 is free for any: none has number 0
  free-of : (number : ℕ) (name : List ℕ) (rows : List ConferenceRow) → AllByRecursion (λ row. 0 < row.number) rows →
      list_any (λ row. not (row.number == 0) && clash row.name name) rows ≡ false →
      list_any (λ row. not (row.number == number) && clash row.name name) rows ≡ false
  free-of number name [] positive none = refl
  free-of number name (row ∷ rows) positive none =
      let parts = or_parts (not (row.number == 0) && clash row.name name) _ none in
      let some : (row.number == 0) ≡ false =
      ne_eqb row.number 0 (λ zero. let more = positive.0 in omega (arith, more, zero)) in
      let apart : clash row.name name ≡ false = rw some at parts.0 in
      or_from _ _ (and_right (not (row.number == number)) (clash row.name name) apart)
      (free-of number name rows positive.1 parts.1)

  conf_added-fits : (name : List ℕ) (kind at creator supervisor : ℕ) → name_guard name ≡ None →
      free_guard db 0 name ≡ None → is_secret_protected kind ≡ true → drawn_guard db ≡ None →
      fits (effect.ConfAdded (next_conference_of db) name kind at creator supervisor) db ≡ true
  unfolding fits conference_of conferences_of next_conference_of
  conf_added-fits name kind at creator supervisor named free protected drawn =
      let level : nat_le next next ≡ true = le-leb next next (omega arith) in
      let last = passed (nat_le next LAST_CONFERENCE) error.TEMPORARY_FAILURE 0 drawn in
      let absent : is_none (row_of number_of_conference next db.conferences) ≡ true = ap is_none next-absent in
      let none = not-true _ (name-free db 0 name free) in
      let free' = not_from_false _ (free-of next name db.conferences whole.conferences.positive none) in
      and_from _ _ (and_from _ _ (and_from _ _ (and_from _ _ level last) absent)
      (and_from _ _ (name-short name named) free')) protected

  -- what is there of it, once it is made
  module _ (name : List ℕ) (kind at creator supervisor : ℕ) where
    abbrev given : ConferenceRow
    given = fresh_conference next name kind at creator supervisor

    abbrev with_given : List ConferenceRow
    with_given = with_row number_of_conference given db.conferences

    given-found : row_of number_of_conference next with_given ≡ Some given
    given-found = row_of-with_row number_of_conference next given db.conferences ∙ rw (eq-eqb next next refl) refl

    no-items : items_of db false next ≡ []
    no-items = none-held db whole false next
        (λ number. ap (λ (found : Option ConferenceRow). elim found as (λ _. Bool) [
          | None ↦ false
          | Some row ↦ nat_lt number row.next_item
        ]) next-absent)

    -- in any rows with these conferences, and the items that there were
    bears-given : (after : Db) → after.conferences ≡ with_given → after.items ≡ db.items → Bears false next 1 [] after
    unfolding conference_of next_item_of items_of
    bears-given after conferences items = record {
      there = ap (λ (rows : List ConferenceRow). is_some (row_of number_of_conference next rows)) conferences
          ∙ ap is_some given-found;
      next = ap (λ (rows : List ConferenceRow).
          elim (row_of number_of_conference next rows) as (λ _. ℕ) [ None ↦ 1 | Some row ↦ row.next_item ]) conferences
          ∙ ap (λ (found : Option ConferenceRow).
          elim found as (λ _. ℕ) [ None ↦ 1 | Some row ↦ row.next_item ]) given-found;
      items = ap (λ (rows : List ItemRow).
          map (λ (row : ItemRow). row.item) (filter (is_item_of false next) rows)) items
          ∙ no-items;
    }

-- ---- call 88
made_conf-fits : (asked : Asked) (given : NewConference) (by : ℕ) → IsWhole asked.db →
    is_some (person_of asked.db by) ≡ true → name_guard given.name ≡ None → free_guard asked.db 0 given.name ≡ None →
    is_secret_protected given.kind ≡ true → drawn_guard asked.db ≡ None →
    CanAdd 1 0 (items_from 1 by asked.moment given.aux_items) →
    all_fit (effect.ConfAdded (next_conference_of asked.db) given.name given.kind asked.moment by by
    ∷ items_added false (next_conference_of asked.db) (items_from 1 by asked.moment given.aux_items)
    ++ counts by counter.CreatedConferences 1) asked.db ≡ true
unfolding after_effect person_of next_conference_of
made_conf-fits asked given by whole there named free protected drawn can =
    let db : Db = asked.db in
    let number : ℕ = db.next_conference in
    let items : List AuxRow = items_from 1 by asked.moment given.aux_items in
    let make : Effect = effect.ConfAdded number given.name given.kind asked.moment by by in
    fit-then make (items_added false number items ++ counts by counter.CreatedConferences 1) db
    (conf_added-fits db whole given.name given.kind asked.moment by by named free protected drawn)
    (items-fit (λ (db : Db). is_some (person_of db by) ≡ true) false number (λ item db is. is)
    (counts by counter.CreatedConferences 1) (λ db is. counts-fit db by counter.CreatedConferences 1 is) items 1 []
    (after_effect make db)
    (bears-given db whole given.name given.kind asked.moment by by (after_effect make db) refl refl) there can)

pub create_conf-fits : (asked : Asked) (given : NewConference) → IsWhole asked.db → AreSeated asked.db asked.seats →
    (create_conf asked given).early ≡ None → all_fit (create_conf asked given).rest.effects asked.db ≡ true
create_conf-fits asked given whole seated passes =
    let by : ℕ = (caller asked).person in
    let pass = all-pass (login_guard (caller asked) ∷ create_conf_guard asked.db (caller asked)
    ∷ name_guard given.name ∷ unless (not (is_letterbox given.kind)) error.LETTERBOX 0
    ∷ type_guard given.kind ∷ free_guard asked.db 0 given.name ∷ drawn_guard asked.db ∷ []) passes in
    with_items-fit (new_items_guard object.Conference by given.aux_items) _ asked.db (λ allowed.
    made_conf-fits asked given by whole (caller-there asked seated pass.0) pass.1.1.0 pass.1.1.1.1.1.0
    (passed (is_secret_protected given.kind) _ 0 pass.1.1.1.1.0) pass.1.1.1.1.1.1.0
    (new_items-can object.Conference by given.aux_items by asked.moment allowed))

-- ---- call 89
module _ (db : Db) (whole : IsWhole db) (name : List ℕ) (at by flags : ℕ) (password : List ℕ) where
  abbrev person : ℕ
  person = db.next_conference

  abbrev boxed : Db
  boxed = after_effect (effect.ConfAdded person name letterbox_type at by person) db

  abbrev peopled : Db
  peopled = after_effect (effect.PersonAdded person first_privileges flags at) boxed

  abbrev locked : Db
  locked = after_effect (effect.Password person (password_hash person password)) peopled

  abbrev joined : Db
  joined = after_effect (effect.MemberSet person person 0 highest_priority by at 0) locked

  -- a person has its letterbox, and so there is none of the number
  person-absent : row_of number_of_person person db.persons ≡ None
  person-absent = none-there (λ row. row.number == person) db.persons
      (all-weaker (λ row. has_letterbox db.conferences row.number ≡ true) (λ row. (row.number == person) ≡ false)
      (λ row boxed. ne_eqb row.number person (λ same.
      let here : has_letterbox db.conferences person ≡ true = rw same at boxed in
      true≢false (sym here ∙ ap (λ (found : Option ConferenceRow). elim found as (λ _. Bool) [
        | None ↦ false
        | Some row ↦ is_letterbox row.kind
      ]) (next-absent db whole)))) db.persons whole.persons.housed)

  person_added-fits : fits (effect.PersonAdded person first_privileges flags at) boxed ≡ true
  unfolding fits after_effect conference_of person_of
  person_added-fits = and_from _ _
      (ap (λ (found : Option ConferenceRow). elim found as (λ _. Bool) [
        | None ↦ false
        | Some row ↦ is_letterbox row.kind
      ]) (given-found db whole name letterbox_type at by person))
      (ap is_none person-absent)

  person-found : row_of number_of_person person
      (with_row number_of_person (fresh_person person first_privileges flags at) db.persons)
      ≡ Some (fresh_person person first_privileges flags at)
  person-found = row_of-with_row number_of_person person (fresh_person person first_privileges flags at) db.persons
      ∙ rw (eq-eqb person person refl) refl

  person-made : is_some (person_of peopled person) ≡ true
  unfolding after_effect person_of
  person-made = ap is_some person-found

  password-fits : fits (effect.Password person (password_hash person password)) peopled ≡ true
  unfolding fits
  password-fits = person-made

  person-locked : (number : ℕ) → is_some (person_of peopled number) ≡ true → is_some (person_of locked number) ≡ true
  unfolding after_effect person_of
  person-locked number there = has-changed number_of_person (λ row. true) (with_hash (password_hash person password))
      (λ row. refl) person peopled.persons (λ row found is. refl) number there

  -- nobody of the number was a member
  none-joined : length (filter (λ (row : MembershipRow). row.person == person) db.memberships) ≡ 0
  none-joined = count-none (λ (row : MembershipRow). row.person == person) db.memberships
      (all-weaker (λ row. has_person db.persons row.person ≡ true) (λ row. (row.person == person) ≡ false)
      (λ row there. ne_eqb row.person person (λ same.
      let here : has_person db.persons person ≡ true = rw same at there in
      true≢false (sym here ∙ ap is_some person-absent))) db.memberships whole.memberships.person_there)

  member_set-fits : fits (effect.MemberSet person person 0 highest_priority by at 0) locked ≡ true
  unfolding fits after_effect conference_of person_of memberships_of
  member_set-fits =
      let many = count-memberships person db.memberships in
      let none = none-joined in
      and_from _ _ (and_from _ _ (person-locked person person-made)
      (ap is_some (given-found db whole name letterbox_type at by person)))
      (or_right _ _ (lt-ltb (length (Memberships.memberships_of person db.memberships)) MOST_MEMBERSHIPS
      (omega (arith, many, none))))

  -- whoever was there still is
  still-there : (number : ℕ) → is_some (person_of db number) ≡ true → is_some (person_of joined number) ≡ true
  unfolding after_effect person_of
  still-there number there = person-locked number (has-with_row number_of_person (λ row. true)
      (fresh_person person first_privileges flags at) db.persons (ap is_none person-absent) number there)

  bears-letterbox : Bears false person 1 [] joined
  unfolding after_effect
  bears-letterbox = bears-given db whole name letterbox_type at by person joined refl refl

made_person-fits : (asked : Asked) (given : NewPerson) → IsWhole asked.db → AreSeated asked.db asked.seats →
    name_guard given.name ≡ None → free_guard asked.db 0 given.name ≡ None → drawn_guard asked.db ≡ None →
    CanAdd 1 0 (items_from 1 (maker (caller asked).person (next_conference_of asked.db)) asked.moment given.aux_items) →
    all_fit (person_effects asked (next_conference_of asked.db) given) asked.db ≡ true
unfolding after_effect person_of next_conference_of
made_person-fits asked given whole seated named free drawn can =
    let db : Db = asked.db in
    let person : ℕ = db.next_conference in
    let who : ℕ = (caller asked).person in
    let by : ℕ = maker who person in
    let at : ℕ = asked.moment in
    let items : List AuxRow = items_from 1 by at given.aux_items in
    let last : List Effect = cond (who == 0) [] (counts who counter.CreatedPersons 1) in
    let box : Effect = effect.ConfAdded person given.name letterbox_type at by person in
    let enter : Effect = effect.PersonAdded person first_privileges given.flags at in
    let lock : Effect = effect.Password person (password_hash person given.password) in
    let join : Effect = effect.MemberSet person person 0 highest_priority by at 0 in
    let rest : List Effect = items_added false person items ++ last in
    fit-then box (enter ∷ lock ∷ join ∷ rest) db
    (conf_added-fits db whole given.name letterbox_type at by person named free refl drawn)
    (fit-then enter (lock ∷ join ∷ rest) (boxed db whole given.name at by given.flags given.password)
    (person_added-fits db whole given.name at by given.flags given.password)
    (fit-then lock (join ∷ rest) (peopled db whole given.name at by given.flags given.password)
    (password-fits db whole given.name at by given.flags given.password)
    (fit-then join rest (locked db whole given.name at by given.flags given.password)
    (member_set-fits db whole given.name at by given.flags given.password)
    (items-fit (λ (db : Db). (who == 0) ≡ false → is_some (person_of db who) ≡ true) false person
    (λ item db is. is) last
    (λ db is. elim (cases_Bool (who == 0)) [
      | inl nobody ↦ rw nobody refl
      | inr some ↦ rw some (counts-fit db who counter.CreatedPersons 1 (is some))
    ]) items 1 [] (joined db whole given.name at by given.flags given.password)
    (bears-letterbox db whole given.name at by given.flags given.password)
    (λ some. still-there db whole given.name at by given.flags given.password who
    (caller-there asked seated (rw some refl))) can))))

pub create_person-fits : (asked : Asked) (given : NewPerson) → IsWhole asked.db → AreSeated asked.db asked.seats →
    (create_person asked given).early ≡ None → all_fit (create_person asked given).rest.effects asked.db ≡ true
create_person-fits asked given whole seated passes =
    let number : ℕ = next_conference_of asked.db in
    let pass = all-pass (create_person_guard asked.db (caller asked) ∷ name_guard given.name
    ∷ size_guard given.password LONGEST_PASSWORD ∷ free_guard asked.db 0 given.name
    ∷ drawn_guard asked.db ∷ []) passes in
    with_items-fit (new_items_guard object.Letterbox (maker (caller asked).person number) given.aux_items) _ asked.db
    (λ allowed. made_person-fits asked given whole seated pass.1.0 pass.1.1.1.0 pass.1.1.1.1.0
    (new_items-can object.Letterbox (maker (caller asked).person number) given.aux_items
    (maker (caller asked).person number) asked.moment allowed))
