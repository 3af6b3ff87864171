-- What is left of a walk over blocks of pairs.
use Rattle.std.specs.Prelude.{◌≡◌, ℕ, zero, suc, ◌-◌, ◌<◌, ◌≤◌, slice_get, Some}
use Rattle.std.specs.Prelude.{List, [], ◌∷◌, ◌++◌, length, take, drop}
use denote.RawPtr.{Ptr}
use Rattle.map_chain.specs.Pairs.{Pair}
use Rattle.map_chain.specs.Blocks.{PlacedBlocks, pairs_of, AllFilled}

-- the pairs from the k-th of the i-th block on
abbrev pub onward : PlacedBlocks → ℕ → ℕ → List Pair
onward [] i k = []
onward (b ∷ bs) zero k = drop k b.1 ++ pairs_of bs
onward (b ∷ bs) (suc i) k = onward bs i k

-- the pairs of the first i blocks, of the last of them only the first k
abbrev pub up_to : PlacedBlocks → ℕ → ℕ → List Pair
up_to bs zero k = []
up_to [] (suc i) k = []
up_to (b ∷ bs) (suc zero) k = take k b.1
up_to (b ∷ bs) (suc (suc i)) k = b.1 ++ up_to bs (suc i) k

-- an upward walk stands at the k-th pair of the i-th block, at p, or at the end
pub record StandsUp (bs : PlacedBlocks) (i k : ℕ) (p : Ptr) : Type 0 where
  pub filled : AllFilled bs
  pub within : i ≤ length bs
  pub here : i < length bs → (ps : List Pair) × (slice_get bs i ≡ Some (p, ps)) × (k < length ps)

-- of the last of the first i blocks, at p, a downward walk has the first k pairs still to come
pub record StandsDown (bs : PlacedBlocks) (i k : ℕ) (p : Ptr) : Type 0 where
  pub filled : AllFilled bs
  pub within : i ≤ length bs
  pub here :
      0 < i → (ps : List Pair) × (slice_get bs (i - 1) ≡ Some (p, ps)) × (0 < k) × (k ≤ length ps)
