-- Blocks of pairs, each at its place.
use Rattle.std.specs.Prelude.{◌≡◌, ℕ, suc, ◌+◌, ◌-◌, ◌*◌, ◌<◌, ◌≤◌, ◌⊎◌}
use Rattle.std.specs.Prelude.{Bool, true, false, Option, None}
use Rattle.std.specs.Prelude.{List, [], ◌∷◌, ◌++◌, length, take, drop, remove, slice_get, Some}
use denote.RawPtr.{Ptr}
use Rattle.map_chain.specs.Edit.{edit}
use Rattle.map_chain.specs.Pairs.{Pair, AllBelow, highest}
use Rattle.map_chain.specs.declared.nodes.Place.{Place}

-- blocks in their order, each with its place
abbrev pub PlacedBlocks : Type 0
PlacedBlocks = List (Ptr × List Pair)

-- the blocks' pairs, one block after another
abbrev pub pairs_of : PlacedBlocks → List Pair
pairs_of [] = []
pairs_of (b ∷ bs) = b.1 ++ pairs_of bs

-- the blocks with one more pair in the last
abbrev pub with_last : Pair → PlacedBlocks → PlacedBlocks
with_last q bs = edit (length bs - 1) (λ ps. ps ++ q ∷ []) bs

-- how many pairs the last block has room for
abbrev pub room_in : PlacedBlocks → ℕ
room_in [] = 0
room_in (b ∷ []) = 64 - length b.1
room_in (b ∷ c ∷ bs) = room_in (c ∷ bs)

-- no block is empty, and none has more than 64 pairs
abbrev pub AllFilled : PlacedBlocks → Type 0
AllFilled [] = Unit {0}
AllFilled (b ∷ bs) = (0 < length b.1) × (length b.1 ≤ 64) × AllFilled bs

-- the i-th block, at p, is the first with a local of n or above
pub record IsSought (n : ℕ) (bs : PlacedBlocks) (i : ℕ) (p : Ptr) : Type 0 where
  pub pairs : List Pair
  pub is : slice_get bs i ≡ Some (p, pairs)
  pub before : AllBelow n (pairs_of (take i bs))
  pub reached : n ≤ highest pairs

-- a place and a number are those of the first block with a local of n or above, if there is one
abbrev pub HasSought : ℕ → PlacedBlocks → Option (Place × ℕ) → Type 0
HasSought n bs None = AllBelow n (pairs_of bs)
HasSought n bs (Some r) = IsSought n bs r.1 r.0.ptr

-- the i-th block has these pairs
abbrev pub IsBlockAt : PlacedBlocks → ℕ → List Pair → Type 0
IsBlockAt bs i ps = (p : Ptr) × (slice_get bs i ≡ Some (p, ps))

-- the i-th block, at p, has room for so many pairs more
abbrev pub HasRoomAt : PlacedBlocks → ℕ → Ptr → ℕ → Type 0
HasRoomAt bs i p more = (ps : List Pair) → slice_get bs i ≡ Some (p, ps) → length ps + more ≤ 64

-- the i-th block and the one after it fit into one
pub record FitTogether (bs : PlacedBlocks) (i : ℕ) : Type 0 where
  pub here : Ptr
  pub next : Ptr
  pub pairs : List Pair
  pub more : List Pair
  pub first : slice_get bs i ≡ Some (here, pairs)
  pub second : slice_get bs (suc i) ≡ Some (next, more)
  pub fits : length pairs + length more ≤ 64

-- the i-th block, at p, has k pairs
pub record IsWhole (bs : PlacedBlocks) (i : ℕ) (p : Ptr) (k : ℕ) : Type 0 where
  pub pairs : List Pair
  pub is : slice_get bs i ≡ Some (p, pairs)
  pub count : k ≡ length pairs

-- what room the last block and the spare ones have
abbrev pub room_of : PlacedBlocks → PlacedBlocks → ℕ
room_of used spare = room_in used + 64 * length spare

-- the last block had room, or an empty one, maybe a spare one, now follows it
abbrev pub HasMadeRoom : PlacedBlocks → PlacedBlocks → PlacedBlocks → PlacedBlocks → Type 0
HasMadeRoom used spare used' spare' =
    ((0 < room_in used) × (used' ≡ used) × (spare' ≡ spare))
    ⊎ ((p : Ptr) × (room_in used ≡ 0) × (used' ≡ used ++ (p, []) ∷ [])
    × (length spare' ≡ length spare - 1))

-- the i-th block has more than 32 pairs, or fits into one with neither neighbour
abbrev pub IsSettled : PlacedBlocks → ℕ → Type 0
IsSettled bs i =
    ((p : Ptr) (ps : List Pair) → slice_get bs i ≡ Some (p, ps) → 32 < length ps)
    ⊎ (¬ FitTogether bs i × (0 < i → ¬ FitTogether bs (i - 1)))

-- there was no room in the last block and no spare block, and nothing has changed
abbrev pub HasNoRoom : PlacedBlocks → PlacedBlocks → PlacedBlocks → PlacedBlocks → Type 0
HasNoRoom used spare used' spare' = (used' ≡ used) × (spare' ≡ spare) × (room_of used spare ≡ 0)

-- the i-th block has a k-th pair
abbrev pub IsPairAt : PlacedBlocks → ℕ → ℕ → Type 0
IsPairAt bs i k = (p : Ptr) × (ps : List Pair) × (slice_get bs i ≡ Some (p, ps)) × (k < length ps)

-- the i-th block, at p, has a k-th pair
abbrev pub IsPairOf : PlacedBlocks → ℕ → Ptr → ℕ → Type 0
IsPairOf bs i p k = (ps : List Pair) → slice_get bs i ≡ Some (p, ps) → k < length ps

-- a block that has left is a spare one if it was the last
pub record HasPutBy (spare spare' : PlacedBlocks) (is_last : Bool) : Type 0 where
  pub kept : is_last ≡ true → length spare' ≡ suc (length spare)
  pub gone : is_last ≡ false → spare' ≡ spare

-- the pairs are the same, in no more blocks, and no room is gone
pub record HasKept (used spare used' spare' : PlacedBlocks) : Type 0 where
  pub pairs : pairs_of used' ≡ pairs_of used
  pub filled : AllFilled used'
  pub few : length used' + length spare' ≤ length used + length spare
  pub room : room_of used spare ≤ room_of used' spare'

-- the pairs of the i-th block but for the k-th, and those of all others
abbrev pub pairs_but : PlacedBlocks → ℕ → ℕ → List Pair → List Pair
pairs_but bs i k ps = pairs_of (take i bs) ++ (remove ps k ++ pairs_of (drop (suc i) bs))

-- those are the pairs, whatever the i-th block has
abbrev pub HasPairsBut : PlacedBlocks → ℕ → ℕ → PlacedBlocks → Type 0
HasPairsBut used i k used' =
    (p : Ptr) (ps : List Pair) → slice_get used i ≡ Some (p, ps)
    → pairs_of used' ≡ pairs_but used i k ps

-- the k-th pair of the i-th block is gone, and no room
pub record HasLost (used spare : PlacedBlocks) (i k : ℕ)
    (used' spare' : PlacedBlocks) : Type 0 where
  pub pairs : HasPairsBut used i k used'
  pub filled : AllFilled used'
  pub few : length used' + length spare' ≤ length used + length spare
  pub room : room_of used spare ≤ room_of used' spare'
