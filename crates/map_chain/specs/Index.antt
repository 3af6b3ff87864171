-- The index of the blocks of a chain.
use Rattle.std.specs.Prelude.{◌≡◌, ℕ, ◌+◌, ◌≤◌, List, map, length, vec_capacity}
use Rattle.map_chain.specs.Nodes.{places}
use Rattle.map_chain.specs.Blocks.{PlacedBlocks, with_last}
use Rattle.map_chain.specs.Chain.{IsChain}
use Rattle.map_chain.specs.Keys.{AreKeysOf}
use Rattle.map_chain.specs.declared.index.Index.{Index}
use Rattle.map_chain.specs.declared.nodes.Place.{Place}

-- these are the places of the blocks, in their order
abbrev pub ArePlacesOf : List Place → PlacedBlocks → Type 0
ArePlacesOf ps bs = map (λ p. p.ptr) ps ≡ places bs

-- the index has the places of the blocks, and a key of each
pub record IsIndexOf (index : Index) (bs : PlacedBlocks) : Type 0 where
  pub places : ArePlacesOf index.places.items bs
  pub keys : AreKeysOf index.keys.items bs

-- the index of the blocks in use has room for all others too
pub record IsIndexed (index : Index) (used spare : PlacedBlocks) : Type 0 where
  pub blocks : IsIndexOf index used
  pub room : length used + length spare ≤ vec_capacity index.places
  pub key_room : length used + length spare ≤ vec_capacity index.keys

-- the index will have room for all blocks once the last one has another pair, of the local n
abbrev pub IsIndexedFor : ℕ → Index → PlacedBlocks → PlacedBlocks → Type 0
IsIndexedFor n index used spare = (text : ℕ) → IsIndexed index (with_last (n, text) used) spare

-- a chain with its index
abbrev pub IsKept : PlacedBlocks → PlacedBlocks → ℕ → Index → Type 0
IsKept used spare len index = IsChain used spare len × IsIndexed index used spare
