-- What a chain is to its callers.
use Rattle.std.specs.Prelude.{◌≡◌, ℕ, ◌+◌, ◌^◌, ◌≤◌, List, length}
use Rattle.map_chain.specs.Pairs.{Pair, AllBelow, IsRising}
use Rattle.map_chain.specs.Blocks.{PlacedBlocks, pairs_of, AllFilled}

-- the pairs, and how many more can be added with no memory taken
pub record Listed : Type 0 where
  pub pairs : List Pair
  pub spare : ℕ

-- a chain of the blocks `used`, with spare ones beside it
pub record IsChain (used spare : PlacedBlocks) (len : ℕ) : Type 0 where
  pub rising : IsRising (pairs_of used)
  pub fits : AllBelow (2 ^ 32) (pairs_of used)
  pub filled : AllFilled used
  pub counted : len ≡ length (pairs_of used)
  pub few : length used + length spare ≤ 2 ^ 60
