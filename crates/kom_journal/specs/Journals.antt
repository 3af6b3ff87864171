-- What contracts see of a journal, and what it keeps.
use Rattle.std.specs.Prelude.{◌≡◌, ℕ, ◌+◌, Bool, false, IsTrue, List}
use Rattle.kom_types.specs.declared.effects.Effect.{Effect}
use Rattle.batch_log.specs.Gates.{IsAtRest}
use Rattle.batch_log.specs.Walk.{IsReadTo}
use Rattle.batch_log.specs.Log.{size_after}
use Rattle.kom_journal.specs.Files.{header, body_of}
use Rattle.kom_journal.specs.Pending.{IsSpelled}

-- a journal: its disk; the effects that wait for a flush; for how many bytes more it has room;
-- whether a flush has failed; how many batches its store had when it was opened; and the place of
-- the store's closed gate
pub record JournalView (D : Type 0) : Type 0 where
  pub disk : D
  pub pending : List Effect
  pub spare : ℕ
  pub refused : Bool
  pub batches : ℕ
  pub place : ℕ

-- how long the store gets by a flush of what waits, or the end of its type
abbrev pub size_with : {D : Type 0} → JournalView D → ℕ
size_with journal = size_after journal.place (body_of journal.pending)

-- a store none of whose flushes has failed ends with its closed gate, as its disk counts its bytes
abbrev pub EndsAtGate : {D : Type 0} → (D → ℕ) → JournalView D → Type 0
EndsAtGate size journal = journal.refused ≡ false → size journal.disk ≡ journal.place + 1

-- the bytes are a store with this start whose closed gate at this place ends them, and all of it is
-- stable
pub record IsStored (start : List ℕ) (place : ℕ) (bytes : List ℕ) (images : List ℕ → Type 0)
    : Type 0 where
  pub at_rest : IsAtRest place bytes images
  pub bodies : List (List ℕ)
  pub read : IsReadTo start bodies place bytes

-- What waits is spelled by its bytes; and the store is at rest, unless a flush has failed.
pub record IsKeptWhole (tells refused : Bool) (place : ℕ) (body bytes : List ℕ)
    (images : List ℕ → Type 0) : Type 0 where
  pub spelled : IsSpelled body
  pub stored : refused ≡ false → IsTrue tells → IsStored header place bytes images

-- all of a journal stays but what waits and its room: its disk, and how far its store goes
pub record StaysAs {D : Type 0} (old new : JournalView D) : Type 0 where
  pub disk : new.disk ≡ old.disk
  pub refused : new.refused ≡ old.refused
  pub batches : new.batches ≡ old.batches
  pub place : new.place ≡ old.place
