-- Maps of several owners, as contracts see them.
use Rattle.std.specs.Prelude.{◌≡◌, ◌≢◌, ℕ, List, [], nat_eq, Option}
use Rattle.std.specs.Map.{lookup}
use Rattle.std.specs.Option.{option_map_or}
use Rattle.kom_types.specs.declared.texts.LocalText.{LocalText}
use Rattle.local_maps.specs.Pairs.{Locals}

-- the owners that a map is kept for, each with its map
pub record Owned : Type 0 where
  pub kept : List (ℕ × Locals)

-- the map that is kept for an owner
abbrev pub map_of : Owned → ℕ → Option Locals
map_of maps owner = lookup (nat_eq owner) maps.kept

-- the pairs of an owner: none where no map is kept
abbrev pub pairs_of : Owned → ℕ → List LocalText
pairs_of maps owner = option_map_or (λ map. map.pairs) (map_of maps owner) []

-- how many more pairs of an owner can be added with no memory taken
abbrev pub room_of : Owned → ℕ → ℕ
room_of maps owner = option_map_or (λ map. map.spare) (map_of maps owner) 0

-- the pairs and the room of all other owners are as they were
pub record HasOnlyChanged (old new : Owned) (owner : ℕ) : Type 0 where
  pub pairs : (other : ℕ) → other ≢ owner → pairs_of new other ≡ pairs_of old other
  pub room : (other : ℕ) → other ≢ owner → room_of new other ≡ room_of old other
