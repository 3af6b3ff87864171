-- Effects that fit leave whole rows listed that were.
use Rattle.std.proofs.Common.{◌≡◌, ℕ, ◌+◌, ◌<◌, ◌≤◌, min, Bool, true, false, ◌==◌, ◌&&◌, List, [], ◌∷◌}
use Rattle.std.proofs.Common.{◌++◌, length, Option, Some, None, refl, sym, ◌∙◌, subst, arith, eqb-true, true≢false}
use Rattle.std.specs.Prelude.{map, nat_le, is_some}
use Rattle.std.specs.List.{AllByRecursion}
use Rattle.std.proofs.lemmas.Bool.{cond_both, and_parts, leb-true, le-ltb}
use Rattle.row_table.specs.Tables.{row_of, without_row, changed_row}
use Rattle.kom_types.specs.Bits.{alike}
use Rattle.kom_types.specs.declared.limits.TheConstants.{LAST_DRAWN, LONGEST_USER_NAME}
use Rattle.kom_types.specs.declared.aux_items.AuxRow.{AuxRow}
use Rattle.kom_types.specs.declared.aux_items.ItemRow.{ItemRow}
use Rattle.kom_types.specs.declared.conferences.ConferenceRow.{ConferenceRow}
use Rattle.kom_types.specs.declared.effects.ConfField.{ConfField}
use Rattle.kom_types.specs.declared.effects.ConfField.TheVariants as field
use Rattle.kom_types.specs.declared.effects.Counter.{Counter}
use Rattle.kom_types.specs.declared.effects.Counter.TheVariants as counter
use Rattle.kom_types.specs.declared.effects.Effect.{Effect}
use Rattle.kom_types.specs.declared.effects.Effect.TheVariants as effect
use Rattle.kom_types.specs.declared.effects.PersonField.{PersonField}
use Rattle.kom_types.specs.declared.effects.PersonField.TheVariants as person_field
use Rattle.kom_types.specs.declared.memberships.ReadRange.{ReadRange}
use Rattle.kom_types.specs.declared.persons.PersonRow.{PersonRow}
use Rattle.kom_types.specs.declared.texts.Recipient.{Recipient}
use Rattle.kom_types.specs.declared.texts.TextRow.{TextRow}
use Rattle.kom_types.specs.tables.Conferences as Conferences
use Rattle.kom_types.specs.tables.Conferences.{number_of_conference, fresh_conference, with_name, with_local_drawn}
use Rattle.kom_types.specs.tables.Persons as Persons
use Rattle.kom_types.specs.tables.Persons.{number_of_person, fresh_person, with_hash, logged_in, count_up}
use Rattle.kom_types.specs.tables.Persons.{with_created_drawn, last_count, raise_by}
use Rattle.kom_types.specs.tables.Texts as Texts
use Rattle.kom_types.specs.tables.Texts.{number_of_text, fresh_text, with_created_local}
use Rattle.kom_model.specs.Db.{Db, empty_db, conference_of, person_of, text_of, next_local_of}
use Rattle.kom_model.specs.Db.{next_item_of}
use Rattle.kom_model.specs.Effects.{fits, after_effect, apply, apply_all, member_row, without_number, may_number}
use Rattle.kom_model.specs.Initial.{initial, initial_effects}
use Rattle.kom_model.specs.Whole.{IsWhole, has_drawn_local, has_drawn_item}
use Rattle.kom_model.proofs.whole.Appended.{alike-same}
use Rattle.kom_model.proofs.whole.Counts.{all-kept, all-more, all-mapped, all-picked, all-weaker, all-with_row}
use Rattle.kom_model.proofs.whole.Effects.{apply-whole, empty-whole}
use Rattle.kom_model.proofs.whole.OnTexts.{drawn-below}
use Rattle.kom_snapshot.specs.Listed.{IsListed, IsListedConference, IsListedPerson, IsListedText, IsNext, ArePlaced}
use Rattle.kom_snapshot.specs.Listed.{RiseByKind, in_one_conference, on_one_object}
use Rattle.kom_snapshot.proofs.Places.{with-placed, without-placed, read-placed}
use Rattle.kom_snapshot.proofs.Rising.{rise-kept, rise-more, all-found, next-begun}

-- one more than a number that may be drawn
next-drawn : (number : ℕ) → number ≤ LAST_DRAWN → IsNext (number + 1)
next-drawn number last = (omega arith, omega (arith, last))

first-next : IsNext 1
first-next = (omega arith, omega arith)

-- ---- conferences
conference-fresh : (number : ℕ) (name : List ℕ) (kind at creator supervisor : ℕ) →
    IsListedConference (fresh_conference number name kind at creator supervisor)
conference-fresh number name kind at creator supervisor = record { next_local = first-next; next_item = first-next }

conference-field : (what : ConfField) (row : ConferenceRow) → IsListedConference row →
    IsListedConference (Conferences.with_field what row)
conference-field (field.Presentation text) row listed =
    record { next_local = listed.next_local; next_item = listed.next_item }
conference-field (field.Motd text) row listed =
    record { next_local = listed.next_local; next_item = listed.next_item }
conference-field (field.Supervisor conference) row listed =
    record { next_local = listed.next_local; next_item = listed.next_item }
conference-field (field.PermittedSubmitters conference) row listed =
    record { next_local = listed.next_local; next_item = listed.next_item }
conference-field (field.SuperConference conference) row listed =
    record { next_local = listed.next_local; next_item = listed.next_item }
conference-field (field.Kind kind) row listed =
    record { next_local = listed.next_local; next_item = listed.next_item }
conference-field (field.Nice days) row listed =
    record { next_local = listed.next_local; next_item = listed.next_item }
conference-field (field.KeepCommented days) row listed =
    record { next_local = listed.next_local; next_item = listed.next_item }
conference-field (field.Expire days) row listed =
    record { next_local = listed.next_local; next_item = listed.next_item }
conference-field (field.LastWritten at) row listed =
    record { next_local = listed.next_local; next_item = listed.next_item }

-- ---- persons: what a change leaves, but for its counts
module _ (row : PersonRow) (listed : IsListedPerson row) where
  person-as : (new : PersonRow) → IsNext new.next_created → length new.user ≤ LONGEST_USER_NAME →
      (new.sessions ≡ 0 → new.user ≡ []) → new.sessions ≤ last_count → new.time_present ≡ row.time_present →
      new.created_lines ≡ row.created_lines → new.created_bytes ≡ row.created_bytes →
      new.read_texts ≡ row.read_texts → new.text_fetches ≡ row.text_fetches →
      new.created_persons ≡ row.created_persons → new.created_conferences ≡ row.created_conferences →
      IsListedPerson new
  person-as new next user no_user sessions time lines bytes texts fetches persons conferences = record {
    next_created = next;
    user = user;
    no_user = no_user;
    sessions = sessions;
    time_present = omega (arith, time, listed.time_present);
    created_lines = omega (arith, lines, listed.created_lines);
    created_bytes = omega (arith, bytes, listed.created_bytes);
    read_texts = omega (arith, texts, listed.read_texts);
    text_fetches = omega (arith, fetches, listed.text_fetches);
    created_persons = omega (arith, persons, listed.created_persons);
    created_conferences = omega (arith, conferences, listed.created_conferences);
  }

  -- another field, another password
  person-same : (new : PersonRow) → new.next_created ≡ row.next_created → new.user ≡ row.user →
      new.sessions ≡ row.sessions → new.time_present ≡ row.time_present →
      new.created_lines ≡ row.created_lines → new.created_bytes ≡ row.created_bytes →
      new.read_texts ≡ row.read_texts → new.text_fetches ≡ row.text_fetches →
      new.created_persons ≡ row.created_persons → new.created_conferences ≡ row.created_conferences →
      IsListedPerson new
  person-same new next user sessions = person-as new (
    omega (arith, next, listed.next_created.0),
    omega (arith, next, listed.next_created.1),
  ) (subst (λ l. length l ≤ LONGEST_USER_NAME) (sym user) listed.user)
      (λ none. user ∙ listed.no_user (sym sessions ∙ none)) (omega (arith, sessions, listed.sessions))

  person-field : (what : PersonField) → IsListedPerson (Persons.with_field what row)
  person-field (person_field.Privileges privileges) =
      person-same (record row { privileges = privileges }) refl refl refl refl refl refl refl refl refl refl
  person-field (person_field.Flags flags) =
      person-same (record row { flags = flags }) refl refl refl refl refl refl refl refl refl refl
  person-field (person_field.UserArea text) =
      person-same (record row { user_area = text }) refl refl refl refl refl refl refl refl refl refl

  person-hash : (hash : List ℕ) → IsListedPerson (with_hash hash row)
  person-hash hash = person-same (with_hash hash row) refl refl refl refl refl refl refl refl refl refl

  person-login : (at : ℕ) (user : List ℕ) → length user ≤ LONGEST_USER_NAME → IsListedPerson (logged_in at user row)
  person-login at user short = person-as (logged_in at user row) listed.next_created short
      (λ none. absurd (never row.sessions none)) (omega arith) refl refl refl refl refl refl refl
    where
      never : (count : ℕ) → min (count + 1) last_count ≡ 0 → ⊥
      never count none = omega (arith, none)

  person-drawn : (local : ℕ) → local ≤ LAST_DRAWN → IsListedPerson (with_created_drawn local row)
  person-drawn local last = person-as (with_created_drawn local row) (next-drawn local last) listed.user listed.no_user
      listed.sessions refl refl refl refl refl refl refl

  bounded : (by count : ℕ) → raise_by by count ≤ last_count
  bounded by count = omega arith

  person-counted : (what : Counter) (by : ℕ) → IsListedPerson (count_up what by row)
  person-counted counter.TimePresent by = record {
    next_created = listed.next_created;
    user = listed.user;
    no_user = listed.no_user;
    sessions = listed.sessions;
    time_present = bounded by row.time_present;
    created_lines = listed.created_lines;
    created_bytes = listed.created_bytes;
    read_texts = listed.read_texts;
    text_fetches = listed.text_fetches;
    created_persons = listed.created_persons;
    created_conferences = listed.created_conferences;
  }
  person-counted counter.CreatedLines by = record {
    next_created = listed.next_created;
    user = listed.user;
    no_user = listed.no_user;
    sessions = listed.sessions;
    time_present = listed.time_present;
    created_lines = bounded by row.created_lines;
    created_bytes = listed.created_bytes;
    read_texts = listed.read_texts;
    text_fetches = listed.text_fetches;
    created_persons = listed.created_persons;
    created_conferences = listed.created_conferences;
  }
  person-counted counter.CreatedBytes by = record {
    next_created = listed.next_created;
    user = listed.user;
    no_user = listed.no_user;
    sessions = listed.sessions;
    time_present = listed.time_present;
    created_lines = listed.created_lines;
    created_bytes = bounded by row.created_bytes;
    read_texts = listed.read_texts;
    text_fetches = listed.text_fetches;
    created_persons = listed.created_persons;
    created_conferences = listed.created_conferences;
  }
  person-counted counter.ReadTexts by = record {
    next_created = listed.next_created;
    user = listed.user;
    no_user = listed.no_user;
    sessions = listed.sessions;
    time_present = listed.time_present;
    created_lines = listed.created_lines;
    created_bytes = listed.created_bytes;
    read_texts = bounded by row.read_texts;
    text_fetches = listed.text_fetches;
    created_persons = listed.created_persons;
    created_conferences = listed.created_conferences;
  }
  person-counted counter.TextFetches by = record {
    next_created = listed.next_created;
    user = listed.user;
    no_user = listed.no_user;
    sessions = listed.sessions;
    time_present = listed.time_present;
    created_lines = listed.created_lines;
    created_bytes = listed.created_bytes;
    read_texts = listed.read_texts;
    text_fetches = bounded by row.text_fetches;
    created_persons = listed.created_persons;
    created_conferences = listed.created_conferences;
  }
  person-counted counter.CreatedPersons by = record {
    next_created = listed.next_created;
    user = listed.user;
    no_user = listed.no_user;
    sessions = listed.sessions;
    time_present = listed.time_present;
    created_lines = listed.created_lines;
    created_bytes = listed.created_bytes;
    read_texts = listed.read_texts;
    text_fetches = listed.text_fetches;
    created_persons = bounded by row.created_persons;
    created_conferences = listed.created_conferences;
  }
  person-counted counter.CreatedConferences by = record {
    next_created = listed.next_created;
    user = listed.user;
    no_user = listed.no_user;
    sessions = listed.sessions;
    time_present = listed.time_present;
    created_lines = listed.created_lines;
    created_bytes = listed.created_bytes;
    read_texts = listed.read_texts;
    text_fetches = listed.text_fetches;
    created_persons = listed.created_persons;
    created_conferences = bounded by row.created_conferences;
  }

person-fresh : (number privileges flags last_login : ℕ) →
    IsListedPerson (fresh_person number privileges flags last_login)
person-fresh number privileges flags last_login = record {
  next_created = first-next;
  user = omega arith;
  no_user = λ none. refl;
  sessions = omega arith;
  time_present = omega arith;
  created_lines = omega arith;
  created_bytes = omega arith;
  read_texts = omega arith;
  text_fetches = omega arith;
  created_persons = omega arith;
  created_conferences = omega arith;
}

-- ---- texts
text-numbered : (local : ℕ) (row : TextRow) → IsListedText row → IsListedText (with_created_local local row)
text-numbered local row listed =
    record { positive = listed.positive; lines = listed.lines; next_item = listed.next_item }

text-unnumbered : (person : ℕ) (row : TextRow) → IsListedText row → IsListedText (without_number person row)
text-unnumbered person row listed = cond_both (row.author == person) (with_created_local 0 row) row IsListedText
    (λ _. text-numbered 0 row listed) (λ _. listed)

text-drawn : (number : ℕ) → number ≤ LAST_DRAWN → (row : TextRow) → IsListedText row →
    IsListedText (Texts.with_item_drawn number row)
text-drawn number last row listed =
    record { positive = listed.positive; lines = listed.lines; next_item = next-drawn number last }

-- ---- all rows, where one table is another
module _ (db : Db) (listed : IsListed db) where
  pub conferences-listed : (new : List ConferenceRow) (next : ℕ) → AllByRecursion IsListedConference new →
      IsListed (record db { conferences = new; next_conference = next })
  conferences-listed new next conferences = record {
    placed = listed.placed;
    locals_rise = listed.locals_rise;
    locals_begin = listed.locals_begin;
    items_rise = listed.items_rise;
    items_begin = listed.items_begin;
    conferences = conferences;
    persons = listed.persons;
    texts = listed.texts;
    begun = listed.begun;
  }

  conference-changed : (number : ℕ) (change : ConferenceRow → ConferenceRow) →
      ((row : ConferenceRow) → IsListedConference row → IsListedConference (change row)) →
      IsListed (record db { conferences = changed_row number_of_conference number change db.conferences })
  conference-changed number change keeps = conferences-listed
      (changed_row number_of_conference number change db.conferences) db.next_conference
      (all-picked IsListedConference IsListedConference (λ row. row.number == number) change
      (λ row _ here. keeps row here) (λ row here. here) db.conferences listed.conferences)

  pub persons-listed : (new : List PersonRow) → AllByRecursion IsListedPerson new →
      IsListed (record db { persons = new })
  persons-listed new persons = record {
    placed = listed.placed;
    locals_rise = listed.locals_rise;
    locals_begin = listed.locals_begin;
    items_rise = listed.items_rise;
    items_begin = listed.items_begin;
    conferences = listed.conferences;
    persons = persons;
    texts = listed.texts;
    begun = listed.begun;
  }

  person-changed : (number : ℕ) (change : PersonRow → PersonRow) →
      ((row : PersonRow) → IsListedPerson row → IsListedPerson (change row)) →
      IsListed (record db { persons = changed_row number_of_person number change db.persons })
  person-changed number change keeps = persons-listed (changed_row number_of_person number change db.persons)
      (all-picked IsListedPerson IsListedPerson (λ row. row.number == number) change
      (λ row _ here. keeps row here) (λ row here. here) db.persons listed.persons)

  pub texts-listed : (new : List TextRow) (next : ℕ) → 0 < next → AllByRecursion IsListedText new →
      IsListed (record db { texts = new; next_text = next })
  texts-listed new next begun texts = record {
    placed = listed.placed;
    locals_rise = listed.locals_rise;
    locals_begin = listed.locals_begin;
    items_rise = listed.items_rise;
    items_begin = listed.items_begin;
    conferences = listed.conferences;
    persons = listed.persons;
    texts = texts;
    begun = begun;
  }

  text-changed : (number : ℕ) (change : TextRow → TextRow) →
      ((row : TextRow) → IsListedText row → IsListedText (change row)) →
      IsListed (record db { texts = changed_row number_of_text number change db.texts })
  text-changed number change keeps = texts-listed (changed_row number_of_text number change db.texts)
      db.next_text listed.begun
      (all-picked IsListedText IsListedText (λ row. row.number == number) change
      (λ row _ here. keeps row here) (λ row here. here) db.texts listed.texts)

  recipients-listed : (new : List Recipient) → RiseByKind in_one_conference (λ row. row.local) new →
      AllByRecursion (λ row. 0 < row.local) new → IsListed (record db { recipients = new })
  recipients-listed new rise begin = record {
    placed = listed.placed;
    locals_rise = rise;
    locals_begin = begin;
    items_rise = listed.items_rise;
    items_begin = listed.items_begin;
    conferences = listed.conferences;
    persons = listed.persons;
    texts = listed.texts;
    begun = listed.begun;
  }

  items-listed : (new : List ItemRow) → RiseByKind on_one_object (λ row. row.item.number) new →
      AllByRecursion (λ row. 0 < row.item.number) new → IsListed (record db { items = new })
  items-listed new rise begin = record {
    placed = listed.placed;
    locals_rise = listed.locals_rise;
    locals_begin = listed.locals_begin;
    items_rise = rise;
    items_begin = begin;
    conferences = listed.conferences;
    persons = listed.persons;
    texts = listed.texts;
    begun = listed.begun;
  }

  -- rows of which nothing is asked here but the places
  others-listed : (new : Db) → ArePlaced new.memberships → new.recipients ≡ db.recipients → new.items ≡ db.items →
      new.conferences ≡ db.conferences → new.persons ≡ db.persons → new.texts ≡ db.texts →
      new.next_text ≡ db.next_text → IsListed new
  others-listed new placed recipients items conferences persons texts next = record {
    placed = placed;
    locals_rise = subst (RiseByKind in_one_conference (λ row. row.local)) (sym recipients) listed.locals_rise;
    locals_begin = subst (AllByRecursion (λ (row : Recipient). 0 < row.local)) (sym recipients) listed.locals_begin;
    items_rise = subst (RiseByKind on_one_object (λ row. row.item.number)) (sym items) listed.items_rise;
    items_begin = subst (AllByRecursion (λ (row : ItemRow). 0 < row.item.number)) (sym items) listed.items_begin;
    conferences = subst (AllByRecursion IsListedConference) (sym conferences) listed.conferences;
    persons = subst (AllByRecursion IsListedPerson) (sym persons) listed.persons;
    texts = subst (AllByRecursion IsListedText) (sym texts) listed.texts;
    begun = omega (arith, next, listed.begun);
  }

-- ---- each effect
module _ (db : Db) (whole : IsWhole db) (listed : IsListed db) where
  -- recipients of the conference have local numbers below the next one
  locals-below : (given : Recipient) → nat_le (next_local_of db given.conference) given.local ≡ true →
      (row : Recipient) → has_drawn_local db.conferences row.conference row.local ≡ true →
      in_one_conference row given ≡ true → row.local < given.local
  unfolding next_local_of conference_of
  locals-below given next row drawn same =
      let here : has_drawn_local db.conferences given.conference row.local ≡ true =
      rw (eqb-true row.conference given.conference same) at drawn in
      drawn-below (λ row. row.next_local) (row_of number_of_conference given.conference db.conferences) row.local
      given.local here next

  local-begun : (given : Recipient) → nat_le (next_local_of db given.conference) given.local ≡ true → 0 < given.local
  unfolding next_local_of conference_of
  local-begun given next = next-begun (λ row. row.next_local)
      (row_of number_of_conference given.conference db.conferences) given.local
      (λ row found. (all-found IsListedConference _ db.conferences row listed.conferences found).next_local.0) next

  recipient-added : (given : Recipient) → fits (effect.RecipientAdded given) db ≡ true →
      IsListed (after_effect (effect.RecipientAdded given) db)
  unfolding fits after_effect
  recipient-added given fit =
      let draws = and_parts _ _ (and_parts _ _ fit).0 in
      let drawn = and_parts (nat_le (next_local_of db given.conference) given.local)
      (nat_le given.local LAST_DRAWN) draws.1 in
      let more : RiseByKind in_one_conference (λ row. row.local) (db.recipients ++ given ∷ []) =
      rise-more in_one_conference (λ row. row.local) db.recipients given listed.locals_rise
      (all-weaker (λ row. has_drawn_local db.conferences row.conference row.local ≡ true)
      (λ row. in_one_conference row given ≡ true → row.local < given.local) (locals-below given drawn.0)
      db.recipients whole.recipients.drawn) in
      let rows = recipients-listed db listed (db.recipients ++ given ∷ []) more
      (all-more (λ (row : Recipient). 0 < row.local) db.recipients given listed.locals_begin
      (local-begun given drawn.0)) in
      conference-changed (record db { recipients = db.recipients ++ given ∷ [] }) rows given.conference
      (with_local_drawn given.local)
      (λ row here. record { next_local = next-drawn given.local (leb-true _ _ drawn.1); next_item = here.next_item })

  text-below : (object drawn number : ℕ) → has_drawn_item db.texts db.conferences true object drawn ≡ true →
      nat_le (next_item_of db true object) number ≡ true → drawn < number
  unfolding next_item_of text_of
  text-below object drawn number here next =
      drawn-below (λ row. row.next_item) (row_of number_of_text object db.texts) drawn number here next

  conference-below : (object drawn number : ℕ) → has_drawn_item db.texts db.conferences false object drawn ≡ true →
      nat_le (next_item_of db false object) number ≡ true → drawn < number
  unfolding next_item_of conference_of
  conference-below object drawn number here next =
      drawn-below (λ row. row.next_item) (row_of number_of_conference object db.conferences) drawn number here next

  -- items of the object have numbers below the next one
  items-below : (on_text : Bool) (object : ℕ) (item : AuxRow) →
      nat_le (next_item_of db on_text object) item.number ≡ true → (row : ItemRow) →
      has_drawn_item db.texts db.conferences row.on_text row.object row.item.number ≡ true →
      on_one_object row (record { on_text = on_text; object = object; item = item }) ≡ true →
      row.item.number < item.number
  items-below on_text object item next row drawn same =
      let parts = and_parts (alike row.on_text on_text) (row.object == object) same in
      let here : has_drawn_item db.texts db.conferences on_text object row.item.number ≡ true =
      rw (alike-same row.on_text on_text parts.0, eqb-true row.object object parts.1) at drawn in
      below on_text here next
    where
      below : (on_text : Bool) → has_drawn_item db.texts db.conferences on_text object row.item.number ≡ true →
          nat_le (next_item_of db on_text object) item.number ≡ true → row.item.number < item.number
      below true = text-below object row.item.number item.number
      below false = conference-below object row.item.number item.number

  item-begun : (on_text : Bool) (object number : ℕ) → nat_le (next_item_of db on_text object) number ≡ true →
      0 < number
  unfolding next_item_of conference_of text_of
  item-begun true object number next = next-begun (λ row. row.next_item) (row_of number_of_text object db.texts) number
      (λ row found. (all-found IsListedText _ db.texts row listed.texts found).next_item.0) next
  item-begun false object number next = next-begun (λ row. row.next_item)
      (row_of number_of_conference object db.conferences) number
      (λ row found. (all-found IsListedConference _ db.conferences row listed.conferences found).next_item.0) next

  item-added : (on_text : Bool) (object : ℕ) (item : AuxRow) → fits (effect.AuxAdded on_text object item) db ≡ true →
      IsListed (after_effect (effect.AuxAdded on_text object item) db)
  unfolding fits after_effect
  item-added on_text object item fit =
      let room = and_parts _ _ (and_parts _ _ fit).0 in
      let last = and_parts _ _ (and_parts _ _ room.0).0 in
      let next = (and_parts _ (nat_le (next_item_of db on_text object) item.number) last.0).1 in
      let given : ItemRow = record { on_text = on_text; object = object; item = item } in
      let more : RiseByKind on_one_object (λ row. row.item.number) (db.items ++ given ∷ []) =
      rise-more on_one_object (λ row. row.item.number) db.items given listed.items_rise
      (all-weaker (λ row. has_drawn_item db.texts db.conferences row.on_text row.object row.item.number ≡ true)
      (λ row. on_one_object row given ≡ true → row.item.number < item.number) (items-below on_text object item next)
      db.items whole.items.drawn) in
      let rows = items-listed db listed (db.items ++ given ∷ []) more
      (all-more (λ (row : ItemRow). 0 < row.item.number) db.items given listed.items_begin
      (item-begun on_text object item.number next)) in
      drawn on_text rows (leb-true item.number LAST_DRAWN last.1)
    where
      drawn : (on_text : Bool) → (let given : ItemRow = record { on_text = on_text; object = object; item = item } in
          IsListed (record db { items = db.items ++ given ∷ [] })) → item.number ≤ LAST_DRAWN →
          IsListed (after_effect (effect.AuxAdded on_text object item) db)
      drawn true rows last = text-changed _ rows object (Texts.with_item_drawn item.number)
          (text-drawn item.number last)
      drawn false rows last = conference-changed _ rows object (Conferences.with_item_drawn item.number)
          (λ row here. record { next_local = here.next_local; next_item = next-drawn item.number last })

  created-listed : (person local text : ℕ) → fits (effect.Created person local text) db ≡ true →
      IsListed (after_effect (effect.Created person local text) db)
  unfolding fits after_effect text_of
  created-listed person local text fit = by (row_of number_of_text text db.texts) fit
    where
      by : (found : Option TextRow) → (elim found [
        | None ↦ false
        | Some row ↦ is_some (person_of db person) && may_number db person local row
      ]) ≡ true → IsListed (after_effect (effect.Created person local text) db)
      by None fit = absurd (true≢false (sym fit))
      by (Some row) fit =
          let last = (and_parts _ (nat_le local LAST_DRAWN) (and_parts _ (may_number db person local row) fit).1).1 in
          let texts = text-changed db listed text (with_created_local local) (text-numbered local) in
          person-changed (record db {
            texts = changed_row number_of_text text (with_created_local local) db.texts;
          }) texts person (with_created_drawn local)
          (λ row here. person-drawn row here local (leb-true local LAST_DRAWN last))

  text-added : (number author at : ℕ) (body : List ℕ) → fits (effect.TextAdded number author at body) db ≡ true →
      IsListed (after_effect (effect.TextAdded number author at body) db)
  unfolding fits after_effect
  text-added number author at body fit =
      let numbers = and_parts (nat_le db.next_text number) (nat_le number LAST_DRAWN)
      (and_parts _ _ (and_parts _ _ fit).0).0 in
      let least = leb-true db.next_text number numbers.0 in
      let positive : 0 < number = omega (arith, least, listed.begun) in
      texts-listed db listed _ (number + 1) (omega arith) (all-with_row number_of_text IsListedText
      (fresh_text number author at body) db.texts
      (record { positive = positive; lines = refl; next_item = first-next }) listed.texts)

  member-set : (person conference position priority added_by added_at kind : ℕ) →
      IsListed (after_effect (effect.MemberSet person conference position priority added_by added_at kind) db)
  unfolding after_effect
  member-set person conference position priority added_by added_at kind =
      let given = member_row person conference position priority added_by added_at kind in
      others-listed db listed _ (with-placed given db.memberships (whole.memberships.once person conference)
      listed.placed) refl refl refl refl refl refl

  member-gone : (person conference : ℕ) → IsListed (after_effect (effect.MemberGone person conference) db)
  unfolding after_effect
  member-gone person conference = others-listed db listed _ (without-placed person conference db.memberships
      (whole.memberships.once person conference) listed.placed) refl refl refl refl refl refl

  read-set : (person conference at : ℕ) (ranges : List ReadRange) →
      IsListed (after_effect (effect.ReadSet person conference at ranges) db)
  unfolding after_effect
  read-set person conference at ranges = others-listed db listed _
      (read-placed person conference at db.memberships listed.placed) refl refl refl refl refl refl

  person-gone : (number : ℕ) → IsListed (after_effect (effect.PersonGone number) db)
  unfolding after_effect
  person-gone number =
      let left = map (without_number number) db.texts in
      let texts = texts-listed db listed left db.next_text listed.begun
      (all-mapped IsListedText IsListedText (without_number number) (text-unnumbered number) db.texts listed.texts) in
      persons-listed (record db { texts = left }) texts (without_row number_of_person number db.persons)
      (all-kept IsListedPerson _ db.persons listed.persons)

  pub made-listed : (what : Effect) → fits what db ≡ true → IsListed (after_effect what db)
  unfolding fits after_effect
  made-listed (effect.ConfAdded number name kind at creator supervisor) fit =
      conferences-listed db listed _ (number + 1)
      (all-with_row number_of_conference IsListedConference (fresh_conference number name kind at creator supervisor)
      db.conferences (conference-fresh number name kind at creator supervisor) listed.conferences)
  made-listed (effect.ConfGone number) fit = conferences-listed db listed
      (without_row number_of_conference number db.conferences) db.next_conference
      (all-kept IsListedConference _ db.conferences listed.conferences)
  made-listed (effect.ConfNamed number name) fit = conference-changed db listed number (with_name name)
      (λ row here. record { next_local = here.next_local; next_item = here.next_item })
  made-listed (effect.ConfField number what) fit =
      conference-changed db listed number (Conferences.with_field what) (conference-field what)
  made-listed (effect.PersonAdded number privileges flags last_login) fit = persons-listed db listed _
      (all-with_row number_of_person IsListedPerson (fresh_person number privileges flags last_login) db.persons
      (person-fresh number privileges flags last_login) listed.persons)
  made-listed (effect.PersonGone number) fit = person-gone number
  made-listed (effect.PersonField number what) fit = person-changed db listed number (Persons.with_field what)
      (λ row here. person-field row here what)
  made-listed (effect.Password number hash) fit = person-changed db listed number (with_hash hash)
      (λ row here. person-hash row here hash)
  made-listed (effect.LoggedIn number at user) fit = person-changed db listed number (logged_in at user)
      (λ row here. person-login row here at user
      (leb-true (length user) LONGEST_USER_NAME (and_parts _ (nat_le (length user) LONGEST_USER_NAME) fit).1))
  made-listed (effect.Counted number what by) fit = person-changed db listed number (count_up what by)
      (λ row here. person-counted row here what by)
  made-listed (effect.TextAdded number author at body) fit = text-added number author at body fit
  made-listed (effect.TextGone number) fit = texts-listed db listed (without_row number_of_text number db.texts)
      db.next_text listed.begun (all-kept IsListedText _ db.texts listed.texts)
  made-listed (effect.RecipientAdded given) fit = recipient-added given fit
  made-listed (effect.RecipientGone text conference) fit = recipients-listed db listed _
      (rise-kept in_one_conference (λ row. row.local) _ db.recipients listed.locals_rise)
      (all-kept (λ (row : Recipient). 0 < row.local) _ db.recipients listed.locals_begin)
  made-listed (effect.LinkAdded given) fit = others-listed db listed _ listed.placed refl refl refl refl refl refl
  made-listed (effect.LinkGone child parent footnote) fit =
      others-listed db listed _ listed.placed refl refl refl refl refl refl
  made-listed (effect.MemberSet person conference position priority added_by added_at kind) fit =
      member-set person conference position priority added_by added_at kind
  made-listed (effect.MemberGone person conference) fit = member-gone person conference
  made-listed (effect.ReadSet person conference at ranges) fit = read-set person conference at ranges
  made-listed (effect.MarkSet person text kind) fit =
      others-listed db listed _ listed.placed refl refl refl refl refl refl
  made-listed (effect.MarkGone person text) fit = others-listed db listed _ listed.placed refl refl refl refl refl refl
  made-listed (effect.AuxAdded on_text object item) fit = item-added on_text object item fit
  made-listed (effect.AuxGone on_text object number) fit = items-listed db listed _
      (rise-kept on_one_object (λ row. row.item.number) _ db.items listed.items_rise)
      (all-kept (λ (row : ItemRow). 0 < row.item.number) _ db.items listed.items_begin)
  made-listed (effect.Created person local text) fit = created-listed person local text fit

pub effect-listed : (what : Effect) (db : Db) → fits what db ≡ true → IsWhole db → IsListed db →
    IsListed (after_effect what db)
effect-listed what db fit whole listed = made-listed db whole listed what fit

-- an effect that does not fit changes nothing
apply-listed : (what : Effect) (db : Db) → IsWhole db → IsListed db → IsListed (apply what db)
apply-listed what db whole listed = cond_both (fits what db) (after_effect what db) db IsListed
    (λ fit. effect-listed what db fit whole listed) (λ fit. listed)

pub effects-listed : (effects : List Effect) (db : Db) → IsWhole db → IsListed db → IsListed (apply_all effects db)
effects-listed [] db whole listed = listed
effects-listed (what ∷ effects) db whole listed = effects-listed effects (apply what db) (apply-whole what db whole)
    (apply-listed what db whole listed)

pub empty-listed : IsListed empty_db
empty-listed = record {
  placed = λ person place. rw (le-ltb place 0 (omega arith)) refl;
  locals_rise = tt;
  locals_begin = tt;
  items_rise = tt;
  items_begin = tt;
  conferences = tt;
  persons = tt;
  texts = tt;
  begun = omega arith;
}

pub initial-listed : (password : List ℕ) (moment : ℕ) → IsListed (initial password moment)
unfolding initial
initial-listed password moment = effects-listed (initial_effects password moment) empty_db empty-whole empty-listed
