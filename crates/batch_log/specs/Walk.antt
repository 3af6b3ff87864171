-- What a walk over the gates and the lengths of a file finds.
use Rattle.std.specs.Prelude.{◌≡◌, ◌≢◌, ◌<◌, ◌+◌, ◌^◌, ◌==◌, ℕ, Option, Some, None, List, ◌∷◌}
use Rattle.std.specs.Prelude.{◌++◌, length, drop, nat_le, if◌then◌else◌}
use Rattle.batch_log.specs.Batches.{batch, batches, AreShort, IsBroken, IsBrokenAt}
use Rattle.batch_log.specs.declared.walks.Found.{Found}
use Rattle.batch_log.specs.declared.walks.Found.TheVariants.{Batch, End, Broken}

-- at each moment the image is one of these
abbrev pub Stays : (List ℕ → Type 0) → ℕ → List ℕ → Type 0
Stays images moment image = images image

-- what a gate is, the length after it, and so many bytes from the gate on, say
abbrev pub found_by : ℕ → ℕ → ℕ → Found
found_by gate size left =
    if gate == 1 then (if nat_le left (9 + size) then Broken else Batch size) else End gate

-- a batch that was found ends before these many bytes do
abbrev pub FitsIn : ℕ → Found → Type 0
FitsIn left (Batch size) = 9 + size < left
FitsIn left (End gate) = Unit {0}
FitsIn left Broken = Unit {0}

-- these bytes are a batch whose body is so long, a gate, and anything after it
pub record HasFirst (size : ℕ) (rest : List ℕ) : Type 0 where
  pub body : List ℕ
  pub gate : ℕ
  pub after : List ℕ
  pub whole : rest ≡ batch body ++ gate ∷ after
  pub counts : length body ≡ size
  pub short : size < 2 ^ 64

-- what these bytes are, of which the first is a gate
abbrev pub Stands : List ℕ → Found → Type 0
Stands rest (Batch size) = HasFirst size rest
Stands rest (End gate) = (gate ≢ 1) × ((more : List ℕ) × (rest ≡ gate ∷ more))
Stands rest Broken = (more : List ℕ) × (rest ≡ 1 ∷ more) × IsBroken more

-- the file is a start, the batches of these bodies, and what stands from a place on
pub record IsReadTo (start : List ℕ) (bodies : List (List ℕ)) (place : ℕ) (file : List ℕ)
    : Type 0 where
  pub whole : file ≡ start ++ batches bodies ++ drop place file
  pub at : place ≡ length (start ++ batches bodies)
  pub short : AreShort bodies

-- the file is a start and so many batches up to a place, where it ends with this gate, or breaks
-- off
abbrev pub IsWalked : List ℕ → List ℕ → ℕ → ℕ → Option ℕ → Type 0
IsWalked start file place count (Some gate) =
    (bodies : List (List ℕ)) × IsReadTo start bodies place file × (length bodies ≡ count)
    × (gate ≢ 1) × ((more : List ℕ) × (drop place file ≡ gate ∷ more))
IsWalked start file place count None = IsBrokenAt start place file
