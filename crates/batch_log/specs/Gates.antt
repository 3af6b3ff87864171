-- What stands at the gate after the last batch of a log, and what a stop leaves there.
use Rattle.std.specs.Prelude.{◌≡◌, ◌⊎◌, ℕ, List, [], ◌∷◌, ◌++◌, take}
use Rattle.kom_disk.specs.Disk.{Only}
use Rattle.batch_log.specs.Batches.{with_length}

-- the file ends with a closed gate at this place, all of it stable
pub record IsAtRest (place : ℕ) (bytes : List ℕ) (images : List ℕ → Type 0) : Type 0 where
  pub closed : bytes ≡ take place bytes ++ 0 ∷ []
  pub stable : Only bytes images

-- the bytes are these, all of them stable
pub record IsStable (content bytes : List ℕ) (images : List ℕ → Type 0) : Type 0 where
  pub is : bytes ≡ content
  pub stable : Only bytes images

-- what is written after a closed gate: a body after its length, and the closed gate after it
abbrev pub chunk_of : List ℕ → List ℕ
chunk_of body = with_length body ++ 0 ∷ []

-- the image has a closed gate after these bytes, whatever follows it
abbrev pub IsShut : List ℕ → ℕ → List ℕ → Type 0
IsShut before moment image = (more : List ℕ) × (image ≡ before ++ 0 ∷ more)

-- the image has some gate after these bytes, and then all of the chunk
abbrev pub IsGated : List ℕ → List ℕ → ℕ → List ℕ → Type 0
IsGated before chunk moment image = (gate : ℕ) × (image ≡ before ++ gate ∷ chunk)

-- the gate is closed, or all of the chunk stands after it
abbrev pub IsShutOrWhole : List ℕ → List ℕ → ℕ → List ℕ → Type 0
IsShutOrWhole before chunk moment image =
    IsShut before moment image ⊎ IsGated before chunk moment image
