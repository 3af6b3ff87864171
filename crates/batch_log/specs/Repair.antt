-- What the repair of a file's end leaves.
use Rattle.std.specs.Prelude.{◌≡◌, ◌≢◌, ◌<◌, ◌^◌, ◌⊎◌, ℕ, List, ◌∷◌, ◌++◌, length}
use Rattle.batch_log.specs.Batches.{with_length, IsEnd}
use Rattle.batch_log.specs.Gates.{IsShut, IsGated}

-- the bytes have this gate after these, and then the rest
abbrev pub HasGate : List ℕ → ℕ → List ℕ → List ℕ → Type 0
HasGate before gate rest bytes = bytes ≡ before ++ gate ∷ rest

-- The gate is closed; or it was not before, and all that stood after it stands there.
abbrev pub Mends : List ℕ → ℕ → List ℕ → ℕ → List ℕ → Type 0
Mends before gate rest moment image =
    IsShut before moment image ⊎ ((gate ≢ 0) × IsGated before rest moment image)

-- the bytes after a gate are this body after its length, and an end
pub record IsWholeAfter (body rest : List ℕ) : Type 0 where
  pub end : List ℕ
  pub whole : rest ≡ with_length body ++ end
  pub ended : IsEnd end
  pub short : length body < 2 ^ 64
