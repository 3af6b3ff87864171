-- When the lists of places are those of the marks in the slots.
use Rattle.std.specs.Prelude.{◌≡◌, ◌≤◌, ℕ, Bool, false, ◌==◌, List, filter, length, slice_get}
use Rattle.std.specs.Prelude.{Option, option_map}
use Rattle.std.specs.Option.{option_flatten, option_map_or}
use Rattle.kom_types.specs.declared.texts.Mark.{Mark}
use Rattle.kom_types.specs.declared.texts.MarkRow.{MarkRow}
use Rattle.kom_types.specs.tables.Texts.{is_mark, shown_mark}
use Rattle.row_slots.specs.Slots.{rows_in, places_of}

-- whether a mark is one of this person
abbrev pub is_of : ℕ → MarkRow → Bool
is_of person row = row.person == person

-- whether a mark is on this text
abbrev pub is_on : ℕ → MarkRow → Bool
is_on text row = row.text == text

-- whether a mark of this person is at a place
abbrev pub is_person_at : List (Option MarkRow) → ℕ → ℕ → Bool
is_person_at slots person place =
    option_map_or (is_of person) (option_flatten (slice_get slots place)) false

-- the mark at a place, as it is shown
abbrev pub mark_at : List (Option MarkRow) → ℕ → Option Mark
mark_at slots place = option_map shown_mark (option_flatten (slice_get slots place))

-- Slots with the places of the marks of each person, and on each text.
pub record IsKept (slots : List (Option MarkRow)) (of_person on_text : ℕ → List ℕ) : Type 0 where
  pub listed_of : (person : ℕ) → of_person person ≡ places_of (is_of person) slots
  pub listed_on : (text : ℕ) → on_text text ≡ places_of (is_on text) slots
  -- no person has two marks on one text
  pub once : (person text : ℕ) → length (filter (is_mark person text) (rows_in slots)) ≤ 1
