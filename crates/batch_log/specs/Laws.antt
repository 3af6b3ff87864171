-- What follows from what a file of batches is.
use Rattle.std.specs.Prelude.{◌≡◌, ◌≢◌, ◌<◌, ◌+◌, ◌^◌, ◌⊎◌, ℕ, List, [], ◌∷◌, ◌++◌, length, take}
use Rattle.std.specs.Prelude.{Some}
use Rattle.batch_log.specs.Batches.{AreBytes, batches, HasBatches, IsBrokenAt}
use Rattle.batch_log.specs.Gates.{IsShutOrWhole, chunk_of}
use Rattle.batch_log.specs.Log.{flush_of}
use Rattle.batch_log.specs.Repair.{IsWholeAfter, Mends}
use Rattle.batch_log.specs.Walk.{IsReadTo, IsWalked}

-- after one start a file has the batches of one list of bodies
abbrev pub BodiesAreUnique : Type 0
BodiesAreUnique =
    (start file : List ℕ) (bodies others : List (List ℕ))
    → HasBatches start bodies file → HasBatches start others file → bodies ≡ others

-- it does not both have batches and an end, and break off
abbrev pub HasNoBreak : Type 0
HasNoBreak =
    (start file : List ℕ) (bodies : List (List ℕ)) (place : ℕ)
    → HasBatches start bodies file → IsBrokenAt start place file → ⊥

-- it breaks off at one place
abbrev pub BreaksOnce : Type 0
BreaksOnce =
    (start file : List ℕ) (place other : ℕ)
    → IsBrokenAt start place file → IsBrokenAt start other file → place ≡ other

-- a file of bytes that begins with the start and is longer does the one or the other
abbrev pub EndsOrBreaks : Type 0
EndsOrBreaks =
    (start : List ℕ) (gate : ℕ) (rest : List ℕ) → AreBytes rest
    → ((bodies : List (List ℕ)) × HasBatches start bodies (start ++ gate ∷ rest))
    ⊎ ((place : ℕ) × IsBrokenAt start place (start ++ gate ∷ rest))

-- a walk that ends at a gate has passed all batches of the file, and counts each
abbrev pub WalksOverAll : Type 0
WalksOverAll =
    (start file : List ℕ) (place count gate : ℕ) → IsWalked start file place count (Some gate)
    → (bodies : List (List ℕ)) × HasBatches start bodies file × (length bodies ≡ count)

-- the file has these batches, or one more
abbrev pub HasOrGets : List ℕ → List (List ℕ) → List ℕ → List ℕ → Type 0
HasOrGets start bodies body image =
    HasBatches start bodies image ⊎ HasBatches start (bodies ++ body ∷ []) image

-- what a stop leaves of a flush has the batches from before it, or the flushed one too
abbrev pub FlushKeeps : Type 0
FlushKeeps =
    (start file body image : List ℕ) (bodies : List (List ℕ)) (place moment : ℕ)
    → IsReadTo start bodies place file → length body < 2 ^ 64
    → IsShutOrWhole (take place file) (chunk_of body) moment image
    → HasOrGets start bodies body image

-- after a flush the flushed one is read too, and ends the file
abbrev pub FlushReads : Type 0
FlushReads =
    (start file body new : List ℕ) (bodies : List (List ℕ)) (place : ℕ)
    → IsReadTo start bodies place file → length body < 2 ^ 64
    → new ≡ take place file ++ batches (flush_of body) ++ 0 ∷ []
    → IsReadTo start (bodies ++ flush_of body) (place + length (batches (flush_of body))) new
    × HasBatches start (bodies ++ flush_of body) new

-- what a stop leaves of a repair has the batches from before it, or one that stood after a gate
-- that was neither closed nor open too
abbrev pub RepairKeeps : Type 0
RepairKeeps =
    (start file rest body image : List ℕ) (bodies : List (List ℕ)) (place gate moment : ℕ)
    → IsReadTo start bodies place file → (gate ≢ 0 → IsWholeAfter body rest)
    → Mends (take place file) gate rest moment image
    → HasOrGets start bodies body image
