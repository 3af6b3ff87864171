-- What a file of batches is: a start of any length, batches, and an end after the last of them.
use Rattle.std.specs.Prelude.{◌≡◌, ◌≢◌, ◌<◌, ◌≤◌, ◌+◌, ◌^◌, ◌⊎◌, ℕ, List, [], ◌∷◌, ◌++◌, length}
use Rattle.std.specs.Prelude.{take}
use Rattle.std.specs.Prelude.{slice_index_or}
use Rattle.std.specs.List.{flat_map, AllByRecursion}
use Rattle.std.specs.Int.{w64, to_le_bytes, from_le_bytes}

-- a body after its length in eight bytes, the lowest of them first
unfoldable pub with_length : List ℕ → List ℕ
with_length body = to_le_bytes w64 (length body) ++ body

-- a batch: an open gate, which is 1, and a body after its length
abbrev pub batch : List ℕ → List ℕ
batch body = 1 ∷ with_length body

-- the batches of these bodies, the first of them first
abbrev pub batches : List (List ℕ) → List ℕ
batches bodies = flat_map batch bodies

-- each length can be written
abbrev pub AreShort : List (List ℕ) → Type 0
AreShort bodies = AllByRecursion (λ body. length body < 2 ^ 64) bodies

-- each number is a byte
abbrev pub AreBytes : List ℕ → Type 0
AreBytes file = (place : ℕ) → slice_index_or file place 0 < 256

-- a gate that is not open, and anything after it
abbrev pub IsEnd : List ℕ → Type 0
IsEnd [] = ⊥
IsEnd (gate ∷ rest) = gate ≢ 1

-- the file is a start, the batches of these bodies and an end
pub record HasBatches (start : List ℕ) (bodies : List (List ℕ)) (file : List ℕ) : Type 0 where
  pub end : List ℕ
  pub whole : file ≡ start ++ batches bodies ++ end
  pub ended : IsEnd end
  pub short : AreShort bodies

-- bytes after an open gate that are no body after its length with a gate after it
abbrev pub IsBroken : List ℕ → Type 0
IsBroken rest = (length rest < 8) ⊎ (length rest ≤ 8 + from_le_bytes w64 (take 8 rest))

-- the file is a start and batches, and then an open gate, at this place, with no batch
pub record IsBrokenAt (start : List ℕ) (place : ℕ) (file : List ℕ) : Type 0 where
  pub bodies : List (List ℕ)
  pub rest : List ℕ
  pub whole : file ≡ start ++ batches bodies ++ 1 ∷ rest
  pub at : place ≡ length (start ++ batches bodies)
  pub broken : IsBroken rest
  pub short : AreShort bodies
