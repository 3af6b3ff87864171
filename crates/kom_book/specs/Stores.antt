-- What the store of a book keeps, and what a stop leaves of it.
use Rattle.std.specs.Prelude.{◌≡◌, ◌⊎◌, ◌<◌, ◌≤◌, ◌^◌, ℕ, Bool, true, false, not, List, [], ◌++◌}
use Rattle.std.specs.Prelude.{Option, Some, None, if◌then◌else◌}
use Rattle.kom_types.specs.declared.acts.Act.TheVariants as act
use Rattle.kom_types.specs.declared.acts.Record.{Record}
use Rattle.kom_types.specs.declared.effects.Effect.{Effect}
use Rattle.kom_model.specs.Db.{Db}
use Rattle.kom_model.specs.Effects.{apply_all, all_fit}
use Rattle.kom_model.specs.Kept.{kept_of}
use Rattle.kom_model.specs.State.{State}
use Rattle.kom_disk.specs.Faults.{Rose}
use Rattle.kom_disk.specs.Moments.{LeavesOnly}
use Rattle.batch_log.specs.declared.errors.FlushFault.{FlushFault}
use Rattle.batch_log.specs.declared.errors.FlushFault.TheVariants as fault
use Rattle.kom_journal.specs.Images.{Image, StandsFor, IsKept}
use Rattle.kom_journal.specs.Journals.{JournalView, StaysAs, size_with}

-- a record is that of a flush
abbrev pub IsFlush : Record → Type 0
IsFlush made = made.entry.act ≡ act.Flush

-- a flush was not refused by a store
abbrev pub IsNotRefused : Record → Type 0
IsNotRefused made = IsFlush made → made.short ≡ false

-- whether a record is that of a flush that the store took
abbrev pub is_taken : Record → Bool
is_taken made = elim made.entry.act [
  | act.Connect user host ↦ false
  | act.Call session reference call ↦ false
  | act.Broken session ↦ false
  | act.Drain session ↦ false
  | act.Flush ↦ not made.short
  | act.Close session ↦ false
]

-- What waits after a record: what it changed waits too, and after a flush that the store took
-- nothing waits.
abbrev pub pending_after : State → List Effect → Record → List Effect
pending_after state pending made =
    if is_taken made then [] else pending ++ kept_of state made

-- The base after a record: a flush that the store took makes it the rows of then.
abbrev pub base_after : State → Db → Record → Db
base_after state base made = if is_taken made then state.db else base

-- both are there, and have this fact; or neither is, and the other holds
abbrev pub IfBoth : {X : Type 0} → Type 0 → (X → X → Type 0) → Option X → Option X → Type 0
IfBoth none P None None = none
IfBoth none P None (Some new) = ⊥
IfBoth none P (Some old) None = ⊥
IfBoth none P (Some old) (Some new) = P old new

module _ {D : Type 0} where
  -- all of a store stays but its room
  abbrev pub StoreStays : JournalView D → JournalView D → Type 0
  StoreStays old new = StaysAs old new × (new.pending ≡ old.pending)

  -- why a store refused a flush: its disk failed; or it would have got this length, which is above
  -- its limit, and nothing was written
  abbrev pub IsFlushCause : (D → ℕ) → JournalView D → JournalView D → FlushFault → Type 0
  IsFlushCause faults old new fault.Fault = Rose (faults old.disk) (faults new.disk)
  IsFlushCause faults old new (fault.Full n) =
      (2 ^ 40 < n) × (n ≡ size_with old) × StoreStays old new

  -- How a store goes on by a record made in a state: what it changes waits. Only a flush calls the
  -- disk, and only where something waits.
  -- A flush that it takes is within its limit; of one that it refuses it is told why.
  pub record StoreFollows (faults : D → ℕ) (state : State) (old : JournalView D) (made : Record)
      (cause : Option FlushFault) (new : JournalView D) : Type 0 where
    pub pending : new.pending ≡ pending_after state old.pending made
    pub unflushed : (IsFlush made → ⊥) → StaysAs old new
    pub nothing : old.pending ≡ [] → new.disk ≡ old.disk
    pub batches : new.batches ≡ old.batches
    pub unrefused : IsNotRefused made → faults new.disk ≡ faults old.disk
    pub unfailed : IsNotRefused made → new.refused ≡ old.refused
    pub limited : is_taken made ≡ true → (old.pending ≡ []) ⊎ (size_with old ≤ 2 ^ 40)
    pub refused : IsFlush made → made.short ≡ true
        → (why : FlushFault) × (cause ≡ Some why) × IsFlushCause faults old new why

-- A stop inside an act leaves what stands for the base; inside a flush, or once one was refused,
-- also what stands for the rows before the act.
abbrev pub MayLeave : State → Record → Db → ℕ → Image → Type 0
MayLeave state made base at image = StandsFor base image
    ⊎ ((IsFlush made ⊎ (state.store_refused ≡ true)) × StandsFor state.db image)

module _ {D : Type 0} (moment : D → ℕ) (images_at : D → ℕ → Image → Type 0) where
  -- a stop now may leave the image
  abbrev pub IsLeftNow : D → Image → Type 0
  IsLeftNow disk image = images_at disk (moment disk) image

  -- The base of a store: the rows from which the effects that wait make those of the state. A stop
  -- now leaves what stands for the base, or for the rows of the state where a flush was refused.
  pub record IsBase (state : State) (journal : JournalView D) (base : Db) : Type 0 where
    pub fit : all_fit journal.pending base ≡ true
    pub rows : apply_all journal.pending base ≡ state.db
    pub left : (image : Image) → IsLeftNow journal.disk image
        → StandsFor base image ⊎ ((state.store_refused ≡ true) × StandsFor state.db image)

  -- What a stop leaves of a store that goes on by a record, from one state to another.
  pub record StopFollows (state : State) (old : JournalView D) (made : Record) (later : State)
      (new : JournalView D) : Type 0 where
    pub base : (base : Db) → IsBase state old base
        → IsBase later new (base_after state base made)
    pub any_moment : (base : Db) → IsBase state old base
        → LeavesOnly moment images_at old.disk new.disk (MayLeave state made base)
    pub kept : (base : Db) → IsBase state old base → IsKept (IsLeftNow old.disk)
        → IsKept (IsLeftNow new.disk)
