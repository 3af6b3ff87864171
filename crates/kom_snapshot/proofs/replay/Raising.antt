-- The counters of a snapshot are raised to what they were.
use Rattle.std.proofs.Common.{◌≡◌, ℕ, ◌+◌, ◌<◌, ◌≤◌, true, false, ◌==◌, List, [], ◌∷◌, ◌++◌, Option, Some}
use Rattle.std.proofs.Common.{None, refl, sym, ◌∙◌, ap, subst, arith, append_assoc, inl, inr}
use Rattle.std.specs.Prelude.{map}
use Rattle.std.specs.List.{AllByRecursion}
use Rattle.std.proofs.lemmas.Bool.{cases_Bool, le-leb, eqb-false}
use Rattle.std.proofs.lemmas.List.{map-append, append-nil}
use Rattle.row_table.specs.Tables.{row_of, changed_row, IsByNumber}
use Rattle.kom_types.specs.declared.limits.TheConstants.{LAST_CONFERENCE, LAST_DRAWN}
use Rattle.kom_types.specs.declared.conferences.ConferenceRow.{ConferenceRow}
use Rattle.kom_types.specs.declared.persons.PersonRow.{PersonRow}
use Rattle.kom_types.specs.declared.texts.TextRow.{TextRow}
use Rattle.kom_types.specs.tables.Conferences.{number_of_conference}
use Rattle.kom_types.specs.tables.Persons.{number_of_person, last_count}
use Rattle.kom_types.specs.tables.Texts.{number_of_text}
use Rattle.kom_model.specs.Db.{Db, conference_of, person_of, text_of}
use Rattle.kom_types.specs.declared.raised.Raised.{Raised}
use Rattle.kom_types.specs.declared.raised.RaisedCounter.TheVariants as counter
use Rattle.kom_snapshot.specs.Listed.{IsListedConference, IsListedPerson, IsListedText}
use Rattle.kom_snapshot.specs.Snap.{raise_to}
use Rattle.kom_model.specs.Raising.{may_raise, raised_in, is_between}
use Rattle.kom_snapshot.proofs.replay.Conferences.{conf_as}
use Rattle.kom_snapshot.proofs.replay.Persons.{begun, person_as}
use Rattle.kom_snapshot.proofs.replay.Replaying.{Raises, raises-none, raises-cons}
use Rattle.kom_snapshot.proofs.replay.Tables.{all-at, below-one, above-one, below-mapped, above-mapped, row-there}
use Rattle.kom_snapshot.proofs.replay.Tables.{row-changed}
use Rattle.kom_snapshot.proofs.replay.Texts.{text_as}

between : (least next most : ℕ) → least ≤ next → next ≤ most → is_between least next most ≡ true
between least next most lower upper = rw (le-leb least next lower, le-leb next most upper) refl

-- ---- a counter of each row of a table is raised, in the order of the rows
module _ {R : Type 0} (number_of : R → ℕ) (old new : R → R)
    (old_keeps : (row : R) → number_of (old row) ≡ number_of row)
    (new_keeps : (row : R) → number_of (new row) ≡ number_of row) (all : List R)
    (rising : IsByNumber number_of all) where
  abbrev half : List R → R → List R → List R
  half front row rest = map new front ++ row ∷ map old rest

  module _ (front : List R) (row : R) (rest : List R) (same : front ++ row ∷ rest ≡ all) where
    rising' : IsByNumber number_of (front ++ row ∷ rest)
    rising' = subst (IsByNumber number_of) (sym same) rising

    half-there : row_of number_of (number_of row) (half front (old row) rest) ≡ Some (old row)
    half-there = subst (λ n. row_of number_of n (half front (old row) rest) ≡ Some (old row)) (old_keeps row)
        (row-there number_of (old row) (map new front) (map old rest)
        (subst (λ n. AllByRecursion (λ one. number_of one < n) (map new front)) (sym (old_keeps row))
        (below-mapped number_of new new_keeps (number_of row) front (below-one number_of front row rest rising'))))

    half-changed : (change : R → R) → change (old row) ≡ new row →
        changed_row number_of (number_of row) change (half front (old row) rest) ≡ half front (new row) rest
    half-changed change changes =
        subst (λ n. changed_row number_of n change (half front (old row) rest) ≡ half front (change (old row)) rest)
        (old_keeps row)
        (row-changed number_of (old row) change (map new front) (map old rest)
        (subst (λ n. AllByRecursion (λ one. number_of one < n) (map new front)) (sym (old_keeps row))
        (below-mapped number_of new new_keeps (number_of row) front (below-one number_of front row rest rising')))
        (subst (λ n. AllByRecursion (λ one. n < number_of one) (map old rest)) (sym (old_keeps row))
        (above-mapped number_of old old_keeps (number_of row) rest (above-one number_of front row rest rising'))))
        ∙ ap (λ one. half front one rest) changes

  -- each may be raised, and is then as in the new table
  pub table-raised : (table : List R → Db) (given : R → Raised) →
      ((front : List R) (row : R) (rest : List R) → front ++ row ∷ rest ≡ all →
      (may_raise (given row) (table (half front (old row) rest)) ≡ true)
      × (raised_in (given row) (table (half front (old row) rest)) ≡ table (half front (new row) rest))) →
      (front rest : List R) → front ++ rest ≡ all →
      Raises (map given rest) (table (map new front ++ map old rest)) (table (map new all))
  table-raised table given each front [] same = raises-none (table (map new front ++ [])) (table (map new all))
      (ap table (append-nil (map new front) ∙ ap (map new) (sym (append-nil front) ∙ same)))
  table-raised table given each front (row ∷ rest) same =
      let one = each front row rest same in
      let moved : half front (new row) rest ≡ map new (front ++ row ∷ []) ++ map old rest =
      sym (append_assoc (map new front) (new row ∷ []) (map old rest))
      ∙ ap (λ l. l ++ map old rest) (sym (map-append new front (row ∷ []))) in
      raises-cons (given row) (map given rest) (table (half front (old row) rest))
      (table (map new (front ++ row ∷ []) ++ map old rest)) (table (map new all)) one.0 (one.1 ∙ ap table moved)
      (table-raised table given each (front ++ row ∷ []) rest (append_assoc front (row ∷ []) rest ∙ same))

-- ---- conferences
module _ (all : List ConferenceRow) (rising : IsByNumber number_of_conference all)
    (bounded : AllByRecursion IsListedConference all) (db : Db) where
  abbrev conferences_in : List ConferenceRow → Db
  conferences_in rows = record db { conferences = rows }

  abbrev with_items : (ℕ → ℕ) → ConferenceRow → ConferenceRow
  with_items items row = record row { next_item = items row.number }

  pub locals-raised : (locals items : ℕ → ℕ) →
      AllByRecursion (λ row. locals row.number ≤ row.next_local) all →
      Raises (map (λ row. raise_to counter.Locals row.number row.next_local) all)
      (conferences_in (map (conf_as locals items) all)) (conferences_in (map (with_items items) all))
  unfolding may_raise raised_in conference_of
  locals-raised locals items within =
      table-raised number_of_conference (conf_as locals items) (with_items items) (λ row. refl) (λ row. refl) all rising
      conferences_in (λ row. raise_to counter.Locals row.number row.next_local)
      (λ front row rest same. (
        subst (λ (found : Option ConferenceRow). (elim found [
          | None ↦ false
          | Some one ↦ is_between one.next_local row.next_local (LAST_DRAWN + 1)
        ]) ≡ true) (sym (half-there number_of_conference (conf_as locals items) (with_items items) (λ row. refl)
            (λ row. refl) all rising front row rest same))
            (between (locals row.number) row.next_local (LAST_DRAWN + 1)
            (all-at (λ row. locals row.number ≤ row.next_local) front row rest
            (subst (AllByRecursion (λ row. locals row.number ≤ row.next_local)) (sym same) within))
            (all-at IsListedConference front row rest
            (subst (AllByRecursion IsListedConference) (sym same) bounded)).next_local.1),
        ap conferences_in (half-changed number_of_conference (conf_as locals items) (with_items items) (λ row. refl)
            (λ row. refl) all rising front row rest same (λ one. record one { next_local = row.next_local }) refl),
      )) [] all refl

  pub items-raised : (items : ℕ → ℕ) → AllByRecursion (λ row. items row.number ≤ row.next_item) all →
      Raises (map (λ row. raise_to counter.ConferenceItems row.number row.next_item) all)
      (conferences_in (map (with_items items) all)) (conferences_in (map (λ (row : ConferenceRow). row) all))
  unfolding may_raise raised_in conference_of
  items-raised items within =
      table-raised number_of_conference (with_items items) (λ row. row) (λ row. refl) (λ row. refl) all rising
      conferences_in (λ row. raise_to counter.ConferenceItems row.number row.next_item)
      (λ front row rest same. (
        subst (λ (found : Option ConferenceRow). (elim found [
          | None ↦ false
          | Some one ↦ is_between one.next_item row.next_item (LAST_DRAWN + 1)
        ]) ≡ true) (sym (half-there number_of_conference (with_items items) (λ row. row) (λ row. refl)
            (λ row. refl) all rising front row rest same))
            (between (items row.number) row.next_item (LAST_DRAWN + 1)
            (all-at (λ row. items row.number ≤ row.next_item) front row rest
            (subst (AllByRecursion (λ row. items row.number ≤ row.next_item)) (sym same) within))
            (all-at IsListedConference front row rest
            (subst (AllByRecursion IsListedConference) (sym same) bounded)).next_item.1),
        ap conferences_in (half-changed number_of_conference (with_items items) (λ row. row) (λ row. refl)
            (λ row. refl) all rising front row rest same (λ one. record one { next_item = row.next_item }) refl),
      )) [] all refl

-- ---- persons
module _ (all : List PersonRow) (rising : IsByNumber number_of_person all)
    (bounded : AllByRecursion IsListedPerson all) (db : Db) where
  abbrev persons_in : List PersonRow → Db
  persons_in rows = record db { persons = rows }

  abbrev with_sessions : PersonRow → PersonRow
  with_sessions row = record row { sessions = begun row.sessions }

  pub created-raised : (next : ℕ → ℕ) → AllByRecursion (λ row. next row.number ≤ row.next_created) all →
      Raises (map (λ row. raise_to counter.Created row.number row.next_created) all)
      (persons_in (map (person_as next) all)) (persons_in (map with_sessions all))
  unfolding may_raise raised_in person_of
  created-raised next within =
      table-raised number_of_person (person_as next) with_sessions (λ row. refl) (λ row. refl) all rising
      persons_in (λ row. raise_to counter.Created row.number row.next_created)
      (λ front row rest same. (
        subst (λ (found : Option PersonRow). (elim found [
          | None ↦ false
          | Some one ↦ is_between one.next_created row.next_created (LAST_DRAWN + 1)
        ]) ≡ true) (sym (half-there number_of_person (person_as next) with_sessions (λ row. refl)
            (λ row. refl) all rising front row rest same))
            (between (next row.number) row.next_created (LAST_DRAWN + 1)
            (all-at (λ row. next row.number ≤ row.next_created) front row rest
            (subst (AllByRecursion (λ row. next row.number ≤ row.next_created)) (sym same) within))
            (all-at IsListedPerson front row rest
            (subst (AllByRecursion IsListedPerson) (sym same) bounded)).next_created.1),
        ap persons_in (half-changed number_of_person (person_as next) with_sessions (λ row. refl)
            (λ row. refl) all rising front row rest same (λ one. record one { next_created = row.next_created }) refl),
      )) [] all refl

  few : (count : ℕ) → begun count ≤ count
  few count = elim (cases_Bool (count == 0)) [
    | inl zero ↦ rw zero (omega arith)
    | inr some ↦ let more = eqb-false count 0 some in rw some (omega (arith, more))
  ]

  pub sessions-raised : Raises (map (λ row. raise_to counter.Sessions row.number row.sessions) all)
      (persons_in (map with_sessions all)) (persons_in (map (λ (row : PersonRow). row) all))
  unfolding may_raise raised_in person_of
  sessions-raised =
      table-raised number_of_person with_sessions (λ row. row) (λ row. refl) (λ row. refl) all rising
      persons_in (λ row. raise_to counter.Sessions row.number row.sessions)
      (λ front row rest same. (
        subst (λ (found : Option PersonRow). (elim found [
          | None ↦ false
          | Some one ↦ is_between one.sessions row.sessions last_count
        ]) ≡ true) (sym (half-there number_of_person with_sessions (λ row. row) (λ row. refl)
            (λ row. refl) all rising front row rest same))
            (between (begun row.sessions) row.sessions last_count (few row.sessions)
            (all-at IsListedPerson front row rest
            (subst (AllByRecursion IsListedPerson) (sym same) bounded)).sessions),
        ap persons_in (half-changed number_of_person with_sessions (λ row. row) (λ row. refl)
            (λ row. refl) all rising front row rest same (λ one. record one { sessions = row.sessions }) refl),
      )) [] all refl

-- ---- texts
module _ (all : List TextRow) (rising : IsByNumber number_of_text all)
    (bounded : AllByRecursion IsListedText all) (db : Db) (created : ℕ → ℕ) where
  abbrev texts_in : List TextRow → Db
  texts_in rows = record db { texts = rows }

  abbrev with_created : TextRow → TextRow
  with_created row = record row { created_local = created row.number }

  pub text_items-raised : (items : ℕ → ℕ) → AllByRecursion (λ row. items row.number ≤ row.next_item) all →
      Raises (map (λ row. raise_to counter.TextItems row.number row.next_item) all)
      (texts_in (map (text_as created items) all)) (texts_in (map with_created all))
  unfolding may_raise raised_in text_of
  text_items-raised items within =
      table-raised number_of_text (text_as created items) with_created (λ row. refl) (λ row. refl) all rising
      texts_in (λ row. raise_to counter.TextItems row.number row.next_item)
      (λ front row rest same. (
        subst (λ (found : Option TextRow). (elim found [
          | None ↦ false
          | Some one ↦ is_between one.next_item row.next_item (LAST_DRAWN + 1)
        ]) ≡ true) (sym (half-there number_of_text (text_as created items) with_created (λ row. refl)
            (λ row. refl) all rising front row rest same))
            (between (items row.number) row.next_item (LAST_DRAWN + 1)
            (all-at (λ row. items row.number ≤ row.next_item) front row rest
            (subst (AllByRecursion (λ row. items row.number ≤ row.next_item)) (sym same) within))
            (all-at IsListedText front row rest
            (subst (AllByRecursion IsListedText) (sym same) bounded)).next_item.1),
        ap texts_in (half-changed number_of_text (text_as created items) with_created (λ row. refl)
            (λ row. refl) all rising front row rest same (λ one. record one { next_item = row.next_item }) refl),
      )) [] all refl

-- ---- the next conference and the next text
pub conferences-raised : (db : Db) (next : ℕ) → db.next_conference ≤ next → next ≤ LAST_CONFERENCE + 1 →
    Raises (raise_to counter.Conferences 0 next ∷ []) db (record db { next_conference = next })
unfolding may_raise raised_in
conferences-raised db next lower upper = raises-cons _ [] _ _ _
    (between db.next_conference next (LAST_CONFERENCE + 1) lower upper) refl
    (raises-none (record db { next_conference = next }) (record db { next_conference = next }) refl)

pub texts-raised : (db : Db) (next : ℕ) → db.next_text ≤ next → next ≤ LAST_DRAWN + 1 →
    Raises (raise_to counter.Texts 0 next ∷ []) db (record db { next_text = next })
unfolding may_raise raised_in
texts-raised db next lower upper = raises-cons _ [] _ _ _
    (between db.next_text next (LAST_DRAWN + 1) lower upper) refl
    (raises-none (record db { next_text = next }) (record db { next_text = next }) refl)
