-- The keys of the blocks of a chain, by which a block is found.
use Rattle.std.specs.Prelude.{ℕ, suc, ◌+◌, ◌<◌, ◌≤◌, List, [], ◌∷◌, length, slice_index}
use Rattle.map_chain.specs.Pairs.{Pair, AllBelow, AllFrom}
use Rattle.map_chain.specs.Blocks.{PlacedBlocks}

-- each key is above all locals
abbrev pub AreAbove : List ℕ → List Pair → Type 0
AreAbove [] ps = Unit {0}
AreAbove (k ∷ ks) ps = AllBelow k ps × AreAbove ks ps

-- each key is at most every local in its block, and above every local in the blocks before it
abbrev pub AreKeysOf : List ℕ → PlacedBlocks → Type 0
AreKeysOf [] [] = Unit {0}
AreKeysOf [] (b ∷ bs) = ⊥
AreKeysOf (k ∷ ks) [] = ⊥
AreKeysOf (k ∷ ks) (b ∷ bs) = AllFrom k b.1 × AreAbove ks b.1 × AreKeysOf ks bs

-- the i-th key is not above n, unless it is the first, and the one after it is
pub record IsNearest (n : ℕ) (keys : List ℕ) (i : ℕ) : Type 0 where
  pub within : i < length keys
  pub reached : 0 < i → slice_index keys i ≤ n
  pub passed : suc i < length keys → n < slice_index keys (suc i)

-- the key nearest to n is one of `span` keys from the i-th on: that is not above n, unless it is
-- the first, and the one after them is
pub record IsAmong (n : ℕ) (keys : List ℕ) (i span : ℕ) : Type 0 where
  pub some : 0 < span
  pub within : i + span ≤ length keys
  pub reached : 0 < i → slice_index keys i ≤ n
  pub passed : i + span < length keys → n < slice_index keys (i + span)
