-- A list of numbers for each key, with the room that it has.
use Rattle.std.specs.Prelude.{◌≡◌, ◌≢◌, ℕ, ◌-◌, List, [], map, nat_eq, unwrap_or}
use Rattle.std.specs.Map.{lookup}
use Rattle.std.specs.Option.{option_map_or}
use Rattle.indexmap.specs.IndexMap.{get}
use Rattle.smallvec.specs.SmallVec.{small_vec_len}
use Rattle.row_slots.specs.declared.lists.Lists.{Lists}

-- the list of a key, empty where none is kept
abbrev pub list_of : Lists → ℕ → List ℕ
list_of lists key = option_map_or (λ list. list.items) (get nat_eq lists.map key) []

-- how many more numbers fit into the list of a key without memory
abbrev pub room_of : Lists → ℕ → ℕ
room_of lists key =
    option_map_or (λ list. list.capacity - small_vec_len list) (get nat_eq lists.map key) 0

-- the lists and rooms of all other keys are as they were
pub record HasOnlyChanged (old new : Lists) (key : ℕ) : Type 0 where
  pub lists : (other : ℕ) → other ≢ key → list_of new other ≡ list_of old other
  pub rooms : (other : ℕ) → other ≢ key → room_of new other ≡ room_of old other

-- the keys that a list is kept for, each with its room
abbrev pub rooms_of : Lists → List (ℕ × ℕ)
rooms_of lists = map (λ e. (e.0, e.1.capacity - small_vec_len e.1)) lists.map.entries

-- the room of a key among such rooms, 0 where it has none
abbrev pub room_in : List (ℕ × ℕ) → ℕ → ℕ
room_in rooms key = unwrap_or (lookup (nat_eq key) rooms) 0
