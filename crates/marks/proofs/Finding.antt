-- Marks by their places in the lists of their persons and texts.
use Rattle.std.proofs.Common.{◌≡◌, ℕ, Bool, true, false, ◌&&◌, eqb, List, [], ◌∷◌, map, filter, filter_map, find}
use Rattle.std.proofs.Common.{Option, Some, option_map, refl, ◌∙◌, ap}
use Rattle.std.specs.List.{cons_option}
use Rattle.std.specs.Option.{option_flatten}
use Rattle.std.proofs.lemmas.Bool.{and_parts, eqb-true}
use Rattle.kom_types.specs.declared.texts.MarkRow.{MarkRow}
use Rattle.kom_types.specs.tables.Texts.{is_mark, mark_of, shown_mark}
use Rattle.row_slots.specs.Slots.{rows_in, places_of}
use Rattle.row_slots.proofs.Places.{row_at, rows-places_of}
use Rattle.marks.specs.Keeping.{is_of, is_on, is_person_at, mark_at, IsKept}
use Rattle.row_slots.proofs.Passing.{found, found_row}

and_turned : (one two : Bool) → (one && two) ≡ (two && one)
and_turned true true = refl
and_turned true false = refl
and_turned false true = refl
and_turned false false = refl

-- whose mark it is, and on what
pub mark_parts : (person text : ℕ) (row : MarkRow) → is_mark person text row ≡ true →
    (row.person ≡ person) × (row.text ≡ text)
mark_parts person text row is =
    let ends = and_parts (eqb row.person person) (eqb row.text text) is in
    (eqb-true row.person person ends.0, eqb-true row.text text ends.1)

module _ (slots : List (Option MarkRow)) (of_person on_text : ℕ → List ℕ) (kept : IsKept slots of_person on_text)
    (person text : ℕ) (places : List ℕ) (are : places ≡ on_text text) where
  same : (row : MarkRow) → is_mark person text row ≡ (is_on text row && is_of person row)
  same row = and_turned (eqb row.person person) (eqb row.text text)

  -- the mark by what is found of its place
  pub mark_found : (place : Option ℕ) → place ≡ find (is_person_at slots person) places →
      mark_of person text (rows_in slots) ≡ option_flatten (option_map (row_at slots) place)
  mark_found place is =
      found (is_of person) (is_on text) (is_mark person text) same slots places (are ∙ kept.listed_on text) place is

  -- the row at a place that was found
  pub row_found : (place : ℕ) → Some place ≡ find (is_person_at slots person) places →
      (row : MarkRow) × (row_at slots place ≡ Some row) × (mark_of person text (rows_in slots) ≡ Some row)
      × (is_mark person text row ≡ true)
  row_found place is =
      found_row (is_of person) (is_on text) (is_mark person text) same slots places (are ∙ kept.listed_on text) place is

-- ---- all at some places

shown_through : (slots : List (Option MarkRow)) (places : List ℕ) →
    filter_map (mark_at slots) places ≡ filter_map (λ row. option_map shown_mark row) (map (row_at slots) places)
shown_through slots [] = refl
shown_through slots (place ∷ places) =
    ap (cons_option (mark_at slots place)) (shown_through slots places)

shown_all : (rows : List MarkRow) → filter_map (λ row. option_map shown_mark row) (map Some rows) ≡ map shown_mark rows
shown_all [] = refl
shown_all (row ∷ rows) = ap (λ rest. shown_mark row ∷ rest) (shown_all rows)

-- the marks at the places of those that pass a test, as they are shown
pub shown_places : (test : MarkRow → Bool) (slots : List (Option MarkRow)) →
    filter_map (mark_at slots) (places_of test slots) ≡ map shown_mark (filter test (rows_in slots))
shown_places test slots =
    shown_through slots (places_of test slots)
    ∙ ap (filter_map (λ row. option_map shown_mark row)) (rows-places_of test slots)
    ∙ shown_all (filter test (rows_in slots))
