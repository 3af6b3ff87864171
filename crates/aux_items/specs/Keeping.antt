-- When the lists of places are those of the items in the slots.
use Rattle.std.specs.Prelude.{◌≡◌, ◌≤◌, ℕ, Bool, false, ◌==◌, List, Option, filter, length}
use Rattle.std.specs.Prelude.{slice_get}
use Rattle.std.specs.Option.{option_flatten, option_map_or}
use Rattle.kom_types.specs.declared.aux_items.ItemRow.{ItemRow}
use Rattle.kom_types.specs.tables.AuxItems.{is_item, is_item_of}
use Rattle.row_slots.specs.Slots.{rows_in, places_of}

-- whether an item of this number is at a place
abbrev pub is_number_at : List (Option ItemRow) → ℕ → ℕ → Bool
is_number_at slots number place =
    option_map_or (λ row. row.item.number == number) (option_flatten (slice_get slots place)) false

-- Slots with the places of the items of each text and each conference.
pub record IsKept (slots : List (Option ItemRow)) (places : Bool → ℕ → List ℕ) : Type 0 where
  pub listed : (on_text : Bool) (object : ℕ)
      → places on_text object ≡ places_of (is_item_of on_text object) slots
  -- no text or conference has two items of a number
  pub once : (on_text : Bool) (object number : ℕ)
      → length (filter (is_item on_text object number) (rows_in slots)) ≤ 1
