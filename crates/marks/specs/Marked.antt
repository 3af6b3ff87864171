-- A table of marks, as contracts see it.
use Rattle.std.specs.Prelude.{◌≢◌, ℕ, ◌+◌, ◌≤◌, List}
use Rattle.kom_types.specs.declared.texts.MarkRow.{MarkRow}
use Rattle.row_slots.specs.Lists.{room_in}

-- The marks in the order of setting; how many more fit without memory; and the persons, and the
-- texts, that a list is kept for, each with the room in its list.
pub record Marked : Type 0 where
  pub marks : List MarkRow
  pub spare : ℕ
  pub persons : List (ℕ × ℕ)
  pub texts : List (ℕ × ℕ)

-- how many more marks of a person its list has room for
abbrev pub room_of_person : Marked → ℕ → ℕ
room_of_person table person = room_in table.persons person

-- how many more marks on a text its list has room for
abbrev pub room_on : Marked → ℕ → ℕ
room_on table text = room_in table.texts text

-- one more mark of a person, on a text, needs no memory
pub record HasRoom (table : Marked) (person text : ℕ) : Type 0 where
  pub spare : 1 ≤ table.spare
  pub of_person : 1 ≤ room_of_person table person
  pub on_text : 1 ≤ room_on table text

-- no room falls
pub record KeepsRoom (old new : Marked) : Type 0 where
  pub spare : old.spare ≤ new.spare
  pub persons : (person : ℕ) → room_of_person old person ≤ room_of_person new person
  pub texts : (text : ℕ) → room_on old text ≤ room_on new text

-- room falls by one at most, and only in all, in the list of this person and in that of this text
pub record UsesRoom (old new : Marked) (person text : ℕ) : Type 0 where
  pub spare : old.spare ≤ new.spare + 1
  pub of_person : room_of_person old person ≤ room_of_person new person + 1
  pub on_text : room_on old text ≤ room_on new text + 1
  pub other_persons : (other : ℕ) → other ≢ person
      → room_of_person old other ≤ room_of_person new other
  pub other_texts : (other : ℕ) → other ≢ text → room_on old other ≤ room_on new other
