-- A list of numbers, in blocks of bounded length.
use Rattle.std.specs.Prelude.{◌≡◌, ℕ, zero, suc, ◌+◌, ◌<◌, ◌≤◌, List, [], ◌∷◌, length, take, All}
use Rattle.std.specs.Prelude.{Option, slice_index, vec_capacity}
use Rattle.std.specs.List.{flat_map}
use Rattle.std.specs.Option.{ForSome}
use Rattle.std.specs.declared.alloc.Global.{Global}
use Rattle.std.specs.declared.vec.Vec.{Vec}
use Rattle.name_lookup.specs.declared.spots.Spot.{Spot}

-- the numbers, and how many more are taken without memory: one, or none
pub record Listed : Type 0 where
  pub numbers : List ℕ
  pub spare : ℕ

-- the numbers of blocks, and those of one of them
abbrev pub numbers_in : List (Vec ℕ Global) → List ℕ
numbers_in blocks = flat_map (λ block. block.items) blocks

abbrev pub numbers_at : ℕ → List (Vec ℕ Global) → List ℕ
numbers_at n [] = []
numbers_at zero (block ∷ blocks) = block.items
numbers_at (suc n) (block ∷ blocks) = numbers_at n blocks

-- how many numbers stand before a block
abbrev pub start_of : ℕ → List (Vec ℕ Global) → ℕ
start_of n blocks = length (numbers_in (take n blocks))

-- a spot is in a block
pub record IsWithin (blocks : List (Vec ℕ Global)) (spot : Spot) : Type 0 where
  pub block : spot.block < length blocks
  pub offset : spot.offset < length (numbers_at spot.block blocks)

-- a spot is in a block, or at its end
pub record IsUpTo (blocks : List (Vec ℕ Global)) (spot : Spot) : Type 0 where
  pub block : spot.block < length blocks
  pub offset : spot.offset ≤ length (numbers_at spot.block blocks)

-- the place of a spot among all numbers
abbrev pub place_at : List (Vec ℕ Global) → Spot → ℕ
place_at blocks spot = start_of spot.block blocks + spot.offset

-- some numbers, one at least, stand at a place among others
pub record StandsAt (piece : List ℕ) (place : ℕ) (numbers : List ℕ) : Type 0 where
  pub some : 0 < length piece
  pub within : place + length piece ≤ length numbers
  pub same : (k : ℕ) → k < length piece → slice_index piece k ≡ slice_index numbers (place + k)

-- a block has a number, and room for one more
pub record IsBlock (block : Vec ℕ Global) : Type 0 where
  pub some : 0 < length block.items
  pub few : length block.items < 512
  pub room : 512 ≤ vec_capacity block

-- a block without a number
pub record IsFresh (block : Vec ℕ Global) : Type 0 where
  pub none : block.items ≡ []
  pub room : 512 ≤ vec_capacity block

-- blocks, the next one if there is one, and how many numbers there are: a 32-bit number
pub record IsKept (blocks : List (Vec ℕ Global)) (next : Option (Vec ℕ Global)) (len : ℕ)
    : Type 0 where
  pub sound : All IsBlock blocks
  pub fresh : ForSome next IsFresh
  pub counted : len ≡ length (numbers_in blocks)
  pub few : len ≤ 4294967295
