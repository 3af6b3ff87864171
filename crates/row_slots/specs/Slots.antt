-- Rows in the order of adding, each in a slot of its own; one that was taken away leaves its slot
-- empty.
use Rattle.std.specs.Prelude.{◌≡◌, ℕ, zero, suc, ◌+◌, Bool, List, [], ◌∷◌, ◌++◌, length, Option}
use Rattle.std.specs.Prelude.{Some, None, replicate, if◌then◌else◌}

-- What slots are to their callers: what stands in each, and how many more rows fit without memory.
pub record Slotted (R : Type 0) : Type 0 where
  pub slots : List (Option R)
  pub spare : ℕ

module _ {R : Type 0} where
  -- the rows that are there, in the order of adding
  abbrev pub rows_in : List (Option R) → List R
  rows_in [] = []
  rows_in (None ∷ slots) = rows_in slots
  rows_in (Some row ∷ slots) = row ∷ rows_in slots

  -- the places, from this one on, of the rows that pass a test; they rise
  abbrev pub places_from : (R → Bool) → ℕ → List (Option R) → List ℕ
  places_from test place [] = []
  places_from test place (None ∷ slots) = places_from test (place + 1) slots
  places_from test place (Some row ∷ slots) =
      if test row then place ∷ places_from test (place + 1) slots
      else places_from test (place + 1) slots

  -- the places of all rows that pass a test
  abbrev pub places_of : (R → Bool) → List (Option R) → List ℕ
  places_of test slots = places_from test 0 slots

  -- the slot of this place is empty then
  abbrev pub empty_slot : ℕ → List (Option R) → List (Option R)
  empty_slot place [] = []
  empty_slot zero (slot ∷ slots) = None ∷ slots
  empty_slot (suc place) (slot ∷ slots) = slot ∷ empty_slot place slots

  -- the row in the slot of this place is another one then; an empty slot stays empty
  abbrev pub replace_row : ℕ → R → List (Option R) → List (Option R)
  replace_row place row [] = []
  replace_row zero row (None ∷ slots) = None ∷ slots
  replace_row zero row (Some first ∷ slots) = Some row ∷ slots
  replace_row (suc place) row (slot ∷ slots) = slot ∷ replace_row place row slots

  -- the slots of a block: where none is kept all are empty
  abbrev pub spread : List (Option R) → List (Option R)
  spread [] = replicate 64 None
  spread (slot ∷ slots) = slot ∷ slots

  -- so many slots are a block
  abbrev pub IsBlock : List (Option R) → Type 0
  IsBlock slots = length slots ≡ 64

  -- the slots of blocks, one block after the other, and then the last ones
  abbrev pub slots_of : List (List (Option R)) → List (Option R) → List (Option R)
  slots_of [] last = last
  slots_of (block ∷ blocks) last = block ++ slots_of blocks last
