-- Effects on persons, and on what they created, leave whole rows.
use Rattle.std.proofs.Common.{◌≡◌, ℕ, ◌+◌, ◌<◌, ◌≤◌, Bool, true, false, not, ◌==◌, ◌&&◌, List, [], ◌∷◌}
use Rattle.std.proofs.Common.{length, Option, Some, None, refl, ap, sym, ◌∙◌, arith, inl, inr, nat_lt, nat_le, eqb-true}
use Rattle.std.proofs.Common.{true≢false}
use Rattle.std.specs.Prelude.{map, is_some}
use Rattle.std.specs.List.{AllByRecursion, filter}
use Rattle.std.proofs.lemmas.Bool.{cases_Bool, and_parts, ltb-true, leb-true}
use Rattle.std.proofs.lemmas.Bool.{not_from_false}
use Rattle.row_table.specs.Tables.{row_of, changed_row, with_row, without_row, IsByNumber}
use Rattle.kom_types.specs.declared.effects.Counter.{Counter}
use Rattle.kom_types.specs.declared.effects.Counter.TheVariants as counter
use Rattle.kom_types.specs.declared.effects.Effect.TheVariants as effect
use Rattle.kom_types.specs.declared.effects.PersonField.{PersonField}
use Rattle.kom_types.specs.declared.effects.PersonField.TheVariants as person_field
use Rattle.kom_types.specs.declared.persons.PersonRow.{PersonRow}
use Rattle.kom_types.specs.declared.texts.TextRow.{TextRow}
use Rattle.kom_types.specs.tables.Memberships as Memberships
use Rattle.kom_types.specs.tables.Persons as Persons
use Rattle.kom_types.specs.tables.Persons.{number_of_person, fresh_person, count_up, with_created_drawn, with_hash}
use Rattle.kom_types.specs.tables.Persons.{logged_in}
use Rattle.kom_types.specs.tables.Texts as Texts
use Rattle.kom_types.specs.tables.Texts.{number_of_text, with_created_local}
use Rattle.kom_model.specs.Db.{Db, conference_of, person_of, text_of, memberships_of, marks_of, next_created_of}
use Rattle.kom_model.specs.Effects.{fits, after_effect, without_number, may_number}
use Rattle.kom_model.specs.Whole.{IsWhole, IsNumbered, is_created, has_drawn_created}
use Rattle.kom_model.proofs.Fields.{person_field-number, counted-number}
use Rattle.kom_model.proofs.whole.Counts.{all-weaker, all-of, none-counted}
use Rattle.kom_model.proofs.whole.Found.{passes, has-made}
use Rattle.kom_model.proofs.whole.Marks.{count-marks}
use Rattle.kom_model.proofs.whole.Memberships.{count-memberships}
use Rattle.kom_model.proofs.whole.Stays.{persons-added, persons-gone, persons-changed, texts-changed, texts-mapped}
use Rattle.kom_model.proofs.whole.Stays.{memberships-owned, marks-owned, recipients-written, links-written}
use Rattle.kom_model.proofs.whole.Stays.{marks-written}
use Rattle.kom_model.proofs.whole.Stays.{items-written, persons-whole, texts-whole, all, other_than, same-number}
use Rattle.kom_model.proofs.whole.Stays.{next-drawn}
use Rattle.kom_model.proofs.whole.Texts.{persons-more, persons-fewer, persons-same, texts-left, texts-created}

-- a field that is set, or a counter, leaves the number that the next text gets
field-created : (what : PersonField) (row : PersonRow) → row.next_created ≤ (Persons.with_field what row).next_created
field-created (person_field.Privileges privileges) row = same-number row.next_created
field-created (person_field.Flags flags) row = same-number row.next_created
field-created (person_field.UserArea text) row = same-number row.next_created

counted-created : (what : Counter) (by : ℕ) (row : PersonRow) → row.next_created ≤ (count_up what by row).next_created
counted-created counter.TimePresent by row = same-number row.next_created
counted-created counter.CreatedLines by row = same-number row.next_created
counted-created counter.CreatedBytes by row = same-number row.next_created
counted-created counter.ReadTexts by row = same-number row.next_created
counted-created counter.TextFetches by row = same-number row.next_created
counted-created counter.CreatedPersons by row = same-number row.next_created
counted-created counter.CreatedConferences by row = same-number row.next_created

-- no row of a number is another than the one that is found
only-row : (number : ℕ) (row : TextRow) (rows : List TextRow) → IsByNumber number_of_text rows →
    row_of number_of_text number rows ≡ Some row → AllByRecursion (λ one.
    (one.number == number) ≡ true → one ≡ row) rows
only-row number row [] rising found = tt
only-row number row (first ∷ rows) rising found = elim (cases_Bool (first.number == number)) [
  | inl here ↦
      let same : first ≡ row = let some : Some first ≡ Some row = rw here at found in cc in
      let at : first.number ≡ number = eqb-true _ _ here in (
        λ is. same,
        all-weaker (λ one. first.number < one.number) (λ one. (one.number == number) ≡ true → one ≡ row)
            (λ one less is. let other = eqb-true one.number number is in absurd (omega (arith, less, at, other))) rows
            rising.0,
      )
  | inr there ↦
      (λ is. absurd (true≢false (sym is ∙ there)), only-row number row rows rising.1 (rw there at found))
]

-- the number that comes next lies above all that were drawn
drawn-below : (found : Option PersonRow) (local number : ℕ) →
    passes (λ row. nat_lt number row.next_created) found ≡ true →
    nat_le (elim found [ None ↦ 1 | Some row ↦ row.next_created ]) local ≡ true → number < local
drawn-below None local number is next = absurd (true≢false (sym is))
drawn-below (Some row) local number is next =
    let less = ltb-true number row.next_created is in let more = leb-true row.next_created local next in
    omega (arith, less, more)

next-found : (found : Option PersonRow) (row : PersonRow) (local : ℕ) → found ≡ Some row →
    nat_le (elim found [ None ↦ 1 | Some row ↦ row.next_created ]) local ≡ true → row.next_created ≤ local + 1
next-found found row local is next =
    let more : nat_le row.next_created local ≡ true = rw is at next in
    let less = leb-true row.next_created local more in omega (arith, less)

module _ (db : Db) (whole : IsWhole db) where
  pub person_added-whole : (number privileges flags last_login : ℕ) →
      fits (effect.PersonAdded number privileges flags last_login) db ≡ true →
      IsWhole (after_effect (effect.PersonAdded number privileges flags last_login) db)
  unfolding fits after_effect conference_of person_of
  person_added-whole number privileges flags last_login fit =
      let parts = and_parts _ _ fit in
      let given : PersonRow = fresh_person number privileges flags last_login in
      persons-whole db whole (with_row number_of_person given db.persons) (persons-added given db.persons parts.1)
      (persons-more db.persons db.conferences whole.persons given parts.0)

  -- one person is changed, and keeps its number and what it drew
  changed : (number : ℕ) (change : PersonRow → PersonRow) → ((row : PersonRow) → (change row).number ≡ row.number) →
      ((row : PersonRow) → row.next_created ≤ (change row).next_created) →
      IsWhole (record db { persons = changed_row number_of_person number change db.persons })
  changed number change numbers created = persons-whole db whole
      (changed_row number_of_person number change db.persons)
      (persons-changed number change db.persons numbers (λ row found. created row))
      (persons-same db.persons db.conferences whole.persons number change numbers)

  pub person_field-whole : (number : ℕ) (what : PersonField) →
      IsWhole (after_effect (effect.PersonField number what) db)
  unfolding after_effect
  person_field-whole number what =
      changed number (Persons.with_field what) (person_field-number what) (field-created what)

  pub password-whole : (number : ℕ) (hash : List ℕ) → IsWhole (after_effect (effect.Password number hash) db)
  unfolding after_effect
  password-whole number hash = changed number (with_hash hash) (λ row. refl) (λ row. same-number row.next_created)

  pub logged_in-whole : (number at : ℕ) (user : List ℕ) → IsWhole (after_effect (effect.LoggedIn number at user) db)
  unfolding after_effect
  logged_in-whole number at user = changed number (logged_in at user) (λ row. refl)
      (λ row. same-number row.next_created)

  pub counted-whole : (number : ℕ) (counter : Counter) (by : ℕ) →
      IsWhole (after_effect (effect.Counted number counter by) db)
  unfolding after_effect
  counted-whole number counter by =
      changed number (count_up counter by) (counted-number counter by) (counted-created counter by)

  pub person_gone-whole : (number : ℕ) → fits (effect.PersonGone number) db ≡ true →
      IsWhole (after_effect (effect.PersonGone number) db)
  unfolding fits after_effect person_of memberships_of marks_of
  person_gone-whole number fit =
      let bare = and_parts (length (Memberships.memberships_of number db.memberships) == 0)
      (length (Texts.marks_of number db.marks) == 0)
      (and_parts (is_some (row_of number_of_person number db.persons)) _ fit).1 in
      let members = count-memberships number db.memberships in
      let none_member : length (filter (λ row. row.person == number) db.memberships) ≡ 0 =
      let zero = eqb-true (length (Memberships.memberships_of number db.memberships)) 0 bare.0 in
      omega (arith, zero, members) in
      let marks = count-marks number db.marks in
      let none_mark : length (filter (λ row. row.person == number) db.marks) ≡ 0 =
      let zero = eqb-true (length (Texts.marks_of number db.marks)) 0 bare.1 in omega (arith, zero, marks) in
      let new = without_row number_of_person number db.persons in
      let left = map (without_number number) db.texts in
      let stay = persons-gone number db.persons in
      let texts = texts-mapped (without_number number) db.texts (left-same (λ row. row.number) (λ row. refl))
      (left-same (λ row. row.next_item) (λ row. refl)) in
      record {
        conferences = whole.conferences;
        persons = persons-fewer db.persons db.conferences whole.persons number;
        texts = texts-left db.texts db.next_text db.persons whole.texts number new stay.created;
        memberships = memberships-owned (other_than number) db.persons new stay db.memberships db.reads db.conferences
            (all-weaker (λ row. (row.person == number) ≡ false) (λ row. not (row.person == number) ≡ true)
            (λ row there. not_from_false _ there) db.memberships
            (none-counted (λ row. row.person == number) db.memberships none_member)) whole.memberships;
        recipients = recipients-written all db.texts left texts db.recipients db.conferences
            (all-of _ (λ row. refl) db.recipients) whole.recipients;
        links = links-written all db.texts left texts db.links (all-of _ (λ row. refl) db.links)
            (all-of _ (λ row. refl) db.links) whole.links;
        marks = marks-written all db.texts left texts db.marks new (all-of _ (λ row. refl) db.marks)
            (marks-owned (other_than number) db.persons new stay db.marks db.texts
            (all-weaker (λ row. (row.person == number) ≡ false) (λ row. not (row.person == number) ≡ true)
            (λ row there. not_from_false _ there) db.marks
            (none-counted (λ row. row.person == number) db.marks none_mark)) whole.marks);
        items = items-written all db.texts left texts db.items db.conferences (all-of _ (λ row on. refl) db.items)
            whole.items;
      } where
        left-same : (tell : TextRow → ℕ) → ((row : TextRow) → tell (with_created_local 0 row) ≡ tell row) →
            (row : TextRow) → tell (without_number number row) ≡ tell row
        left-same tell same row = elim (cases_Bool (row.author == number)) [
          | inl here ↦ rw here (same row)
          | inr there ↦ rw there refl
        ]

  -- what is known of the text that gets a number
  text-found : (found : Option TextRow) (person local : ℕ) (test : Bool) →
      (elim found [ None ↦ false | Some row ↦ test && may_number db person local row ]) ≡ true →
      (row : TextRow) × ((found ≡ Some row) × ((test && may_number db person local row) ≡ true))
  text-found None person local test is = absurd (true≢false (sym is))
  text-found (Some row) person local test is = (row, (refl, is))

  pub created-whole : (person local text : ℕ) → fits (effect.Created person local text) db ≡ true →
      IsWhole (after_effect (effect.Created person local text) db)
  unfolding fits after_effect text_of person_of next_created_of
  created-whole person local text fit =
      let found = text-found (row_of number_of_text text db.texts) person local _ fit in
      let row = found.0 in
      let there = and_parts (is_some (row_of number_of_person person db.persons)) _ found.1.1 in
      let last = and_parts _ _ there.1 in
      let next = and_parts _ _ last.0 in
      let author = and_parts (row.author == person) (row.created_local == 0) next.0 in
      let people = changed_row number_of_person person (with_created_drawn local) db.persons in
      let drawn = persons-whole db whole people
      (persons-changed person (with_created_drawn local) db.persons (λ row. refl)
      (λ row is. next-found (row_of number_of_person person db.persons) row local is next.1))
      (persons-same db.persons db.conferences whole.persons person (with_created_drawn local) (λ row. refl)) in
      texts-whole (record db { persons = people }) drawn
      (changed_row number_of_text text (with_created_local local) db.texts) db.next_text
      (texts-changed text (with_created_local local) db.texts (λ row. refl)
      (λ row is. same-number row.next_item))
      (texts-created db.texts db.next_text people drawn.texts person local text
      (has-made number_of_person (λ row. nat_lt local row.next_created) (with_created_drawn local) (λ row. refl)
      person db.persons (λ row. next-drawn local) there.0)
      (all-weaker (λ one. (one.number == text) ≡ true → one ≡ row) (λ one.
      (one.number == text) ≡ true → one.author ≡ person)
      (λ one same is. ap (λ (row : TextRow). row.author) (same is) ∙ eqb-true _ _ author.0) db.texts
      (only-row text row db.texts whole.texts.rising found.1.0))
      (λ some. all-weaker (IsNumbered db.persons) (λ one. is_created person local one ≡ false)
      (unnumbered some next.1) db.texts whole.texts.numbered)) where
        unnumbered : 0 < local →
            nat_le (elim (row_of number_of_person person db.persons) [
              | None ↦ 1
              | Some row ↦ row.next_created
            ]) local ≡ true →
            (one : TextRow) → IsNumbered db.persons one → is_created person local one ≡ false
        unnumbered some next one numbered = elim (cases_Bool (is_created person local one)) [
          | inl is ↦
              let parts = and_parts (one.author == person) (one.created_local == local) is in
              let same : one.created_local ≡ local = eqb-true _ _ parts.1 in
              let drawn : has_drawn_created db.persons one.author one.created_local ≡ true =
              numbered (omega (arith, same, some)) in
              let owned : has_drawn_created db.persons person one.created_local ≡ true =
              rw (eqb-true one.author person parts.0) at drawn in
              let less = drawn-below (row_of number_of_person person db.persons) local one.created_local owned next in
              absurd (omega (arith, less, same))
          | inr apart ↦ apart
        ]
