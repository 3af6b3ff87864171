-- A conference, or a text, whose number was drawn before effects, and that stands after them, stood before them.
use Rattle.std.proofs.Common.{◌≡◌, ℕ, ◌<◌, ◌≤◌, Bool, true, false, cond, ◌==◌, ◌&&◌, List, [], ◌∷◌, refl, sym, ap}
use Rattle.std.proofs.Common.{◌∙◌, inl}
use Rattle.std.proofs.Common.{inr, arith, subst, true≢false, eqb}
use Rattle.std.specs.Prelude.{map, is_some}
use Rattle.std.proofs.lemmas.Bool.{cases_Bool, and_parts, ne_eqb, leb-true, cond-true, cond-false}
use Rattle.row_table.specs.Tables.{row_of, with_row, without_row, changed_row}
use Rattle.row_table.proofs.Rows.{row_of-with_row, row_of-without_row}
use Rattle.kom_types.specs.declared.effects.Effect.{Effect}
use Rattle.kom_types.specs.declared.effects.Effect.TheVariants as effect
use Rattle.kom_types.specs.tables.Conferences as Conferences
use Rattle.kom_types.specs.tables.Conferences.{number_of_conference, with_name, with_field, with_local_drawn}
use Rattle.kom_types.specs.tables.Conferences.{fresh_conference}
use Rattle.kom_types.specs.tables.Texts as Texts
use Rattle.kom_types.specs.tables.Texts.{number_of_text, with_created_local, fresh_text}
use Rattle.kom_model.specs.Db.{Db, conference_of, text_of}
use Rattle.kom_model.specs.Effects.{fits, after_effect, apply, apply_all, all_fit, without_number}
use Rattle.kom_model.proofs.Fields.{field-number}
use Rattle.kom_laws.proofs.masking.Rows.{same-changed, told-changed}

-- ---- rows of numbers
module _ {X : Type 0} (number_of : X → ℕ) where
  there-with : (given : X) (rows : List X) (number : ℕ) → number < number_of given →
      is_some (row_of number_of number (with_row number_of given rows)) ≡ true →
      is_some (row_of number_of number rows) ≡ true
  there-with given rows number less there =
      let other : eqb (number_of given) number ≡ false = ne_eqb (number_of given) number (λ same. omega arith) in
      sym (ap (λ found. is_some found) (row_of-with_row number_of number given rows ∙ cond-false _ _ _ other)) ∙ there

  there-without : (gone : ℕ) (rows : List X) (number : ℕ) →
      is_some (row_of number_of number (without_row number_of gone rows)) ≡ true →
      is_some (row_of number_of number rows) ≡ true
  there-without gone rows number there =
      let found = row_of-without_row number_of number gone rows in
      elim (cases_Bool (eqb gone number)) [
        | inl here ↦ absurd (true≢false (sym there ∙ ap (λ found. is_some found) (found ∙ cond-true _ _ _ here)))
        | inr other ↦ sym (ap (λ found. is_some found) (found ∙ cond-false _ _ _ other)) ∙ there
      ]

  there-mapped : (change : X → X) → ((row : X) → number_of (change row) ≡ number_of row) → (rows : List X)
      (number : ℕ) → is_some (row_of number_of number (map change rows)) ≡ is_some (row_of number_of number rows)
  there-mapped change keeps rows number = told-changed (λ row. number_of row == number) change false
      (λ row. true) (λ row. true) (λ row. ap (λ n. n == number) (keeps row)) (λ row here. refl) rows

  there-changed : (at : ℕ) (change : X → X) → ((row : X) → number_of (change row) ≡ number_of row) → (rows : List X)
      (number : ℕ) → is_some (row_of number_of number (changed_row number_of at change rows))
      ≡ is_some (row_of number_of number rows)
  there-changed at change keeps rows number = there-mapped (λ row. cond (number_of row == at) (change row) row)
      (λ row. same-changed number_of (number_of row == at) (change row) row (keeps row)) rows number

-- the first of the tests that an effect passes which makes a conference, or a text: its number was never drawn
first-five : (a b c d e : Bool) → (a && b && c && d && e) ≡ true → a ≡ true
first-five a b c d e is =
    (and_parts a b (and_parts (a && b) c (and_parts (a && b && c) d (and_parts (a && b && c && d) e is).0).0).0).0

first-four : (a b c d : Bool) → (a && b && c && d) ≡ true → a ≡ true
first-four a b c d is = (and_parts a b (and_parts (a && b) c (and_parts (a && b && c) d is).0).0).0

-- ---- one effect
conference-stood : (what : Effect) (db : Db) → fits what db ≡ true → (number : ℕ) → number < db.next_conference →
    is_some (conference_of (after_effect what db) number) ≡ true → is_some (conference_of db number) ≡ true
unfolding fits after_effect conference_of
conference-stood (effect.ConfAdded given name kind at creator supervisor) db fit number less there =
    let unused : db.next_conference ≤ given = leb-true db.next_conference given (first-five _ _ _ _ _ fit) in
    there-with number_of_conference (fresh_conference given name kind at creator supervisor) db.conferences number
    (omega arith) there
conference-stood (effect.ConfGone gone) db fit number less there =
    there-without number_of_conference gone db.conferences number there
conference-stood (effect.ConfNamed at name) db fit number less there =
    sym (there-changed number_of_conference at (with_name name) (λ row. refl) db.conferences number) ∙ there
conference-stood (effect.ConfField at what) db fit number less there =
    sym (there-changed number_of_conference at (with_field what) (field-number what) db.conferences number) ∙ there
conference-stood (effect.RecipientAdded given) db fit number less there =
    sym (there-changed number_of_conference given.conference (with_local_drawn given.local) (λ row. refl)
    db.conferences number) ∙ there
conference-stood (effect.AuxAdded true object item) db fit number less there = there
conference-stood (effect.AuxAdded false object item) db fit number less there =
    sym (there-changed number_of_conference object (Conferences.with_item_drawn item.number) (λ row. refl)
    db.conferences number) ∙ there
conference-stood other db fit number less there = there

text-stood : (what : Effect) (db : Db) → fits what db ≡ true → (number : ℕ) → number < db.next_text →
    is_some (text_of (after_effect what db) number) ≡ true → is_some (text_of db number) ≡ true
unfolding fits after_effect text_of
text-stood (effect.TextAdded given author at body) db fit number less there =
    let unused : db.next_text ≤ given = leb-true db.next_text given (first-four _ _ _ _ fit) in
    there-with number_of_text (fresh_text given author at body) db.texts number (omega arith) there
text-stood (effect.TextGone gone) db fit number less there =
    there-without number_of_text gone db.texts number there
text-stood (effect.PersonGone person) db fit number less there =
    sym (there-mapped number_of_text (without_number person) (λ row. same-changed number_of_text
    (row.author == person) (with_created_local 0 row) row refl) db.texts number) ∙ there
text-stood (effect.AuxAdded true object item) db fit number less there =
    sym (there-changed number_of_text object (Texts.with_item_drawn item.number) (λ row. refl) db.texts number) ∙ there
text-stood (effect.AuxAdded false object item) db fit number less there = there
text-stood (effect.Created person local text) db fit number less there =
    sym (there-changed number_of_text text (with_created_local local) (λ row. refl) db.texts number) ∙ there
text-stood other db fit number less there = there

conferences-rise : (what : Effect) (db : Db) → fits what db ≡ true →
    db.next_conference ≤ (after_effect what db).next_conference
unfolding fits after_effect
conferences-rise (effect.ConfAdded given name kind at creator supervisor) db fit =
    let unused : db.next_conference ≤ given = leb-true db.next_conference given (first-five _ _ _ _ _ fit) in
    omega arith
conferences-rise (effect.AuxAdded true object item) db fit = omega arith
conferences-rise (effect.AuxAdded false object item) db fit = omega arith
conferences-rise other db fit = omega arith

texts-rise : (what : Effect) (db : Db) → fits what db ≡ true → db.next_text ≤ (after_effect what db).next_text
unfolding fits after_effect
texts-rise (effect.TextAdded given author at body) db fit =
    let unused : db.next_text ≤ given = leb-true db.next_text given (first-four _ _ _ _ fit) in omega arith
texts-rise (effect.AuxAdded true object item) db fit = omega arith
texts-rise (effect.AuxAdded false object item) db fit = omega arith
texts-rise other db fit = omega arith

-- ---- effects one after the other
applied : (what : Effect) (db : Db) → fits what db ≡ true → apply what db ≡ after_effect what db
applied what db fit = rw fit refl

pub conferences-stood : (effects : List Effect) (db : Db) → all_fit effects db ≡ true → (number : ℕ) →
    number < db.next_conference → is_some (conference_of (apply_all effects db) number) ≡ true →
    is_some (conference_of db number) ≡ true
conferences-stood [] db fit number less there = there
conferences-stood (what ∷ effects) db fit number less there =
    let first = and_parts (fits what db) (all_fit effects (apply what db)) fit in
    let once : apply what db ≡ after_effect what db = applied what db first.0 in
    let rise : db.next_conference ≤ (after_effect what db).next_conference = conferences-rise what db first.0 in
    let less' : number < (after_effect what db).next_conference = omega arith in
    conference-stood what db first.0 number less (subst (λ db. is_some (conference_of db number) ≡ true) once
    (conferences-stood effects (apply what db) first.1 number
    (subst (λ db. number < db.next_conference) (sym once) less') there))

pub texts-stood : (effects : List Effect) (db : Db) → all_fit effects db ≡ true → (number : ℕ) →
    number < db.next_text → is_some (text_of (apply_all effects db) number) ≡ true →
    is_some (text_of db number) ≡ true
texts-stood [] db fit number less there = there
texts-stood (what ∷ effects) db fit number less there =
    let first = and_parts (fits what db) (all_fit effects (apply what db)) fit in
    let once : apply what db ≡ after_effect what db = applied what db first.0 in
    let rise : db.next_text ≤ (after_effect what db).next_text = texts-rise what db first.0 in
    let less' : number < (after_effect what db).next_text = omega arith in
    text-stood what db first.0 number less (subst (λ db. is_some (text_of db number) ≡ true) once
    (texts-stood effects (apply what db) first.1 number
    (subst (λ db. number < db.next_text) (sym once) less') there))
