-- What waits along a history, and what a stop leaves along it.
use Rattle.std.specs.Prelude.{◌≡◌, ◌≤◌, ◌<◌, ◌⊎◌, ◌^◌, ℕ, true, false, List, [], ◌∷◌, ◌++◌, length}
use Rattle.std.specs.Prelude.{map, filter, take, drop, nat_le, Some, None}
use Rattle.std.specs.List.{AllByRecursion}
use Rattle.kom_types.specs.declared.acts.Record.{Record}
use Rattle.kom_types.specs.declared.effects.Effect.{Effect}
use Rattle.kom_model.specs.Db.{Db}
use Rattle.kom_model.specs.Kept.{kept_of}
use Rattle.kom_model.specs.State.{State}
use Rattle.kom_model.specs.After.{after}
use Rattle.kom_model.specs.Legal.{state_after}
use Rattle.kom_disk.specs.Faults.{Rose}
use Rattle.kom_disk.specs.Moments.{LeavesOnly}
use Rattle.kom_journal.specs.Images.{Image, StandsFor, IsKept}
use Rattle.kom_journal.specs.Journals.{JournalView, size_with}
use Rattle.kom_book.specs.Stores.{IsLeftNow, IsBase}
use Rattle.kom_book.specs.declared.ticked.Ticked.{Ticked}

-- the rows after so many of the records
abbrev pub rows_after : State → List Record → ℕ → Db
rows_after start records count = (state_after start (take count records)).db

-- what is kept of records, in order
abbrev pub kept_along : State → List Record → List Effect
kept_along state [] = []
kept_along state (made ∷ records) = kept_of state made ++ kept_along (after state made) records

-- what is kept of those from the stable number on
abbrev pub pending_along : State → List Record → List Effect
pending_along start records = let stable = (state_after start records).stable in
    kept_along (state_after start (take stable records)) (drop stable records)

module _ {D : Type 0} where
  -- the record of an entry
  abbrev pub record_of : Ticked D → Record
  record_of entry = entry.made

  abbrev pub records_of : List (Ticked D) → List Record
  records_of history = map record_of history

  -- A store since a plain opening: what waits is what is kept of the records from the stable number
  -- on. Neither its disk nor a flush has failed while no flush was refused; one was refused only
  -- because the disk failed, or because the store would have got longer than its limit, and then
  -- none has failed.
  pub record StoreLeads (faults : D → ℕ) (start : State) (history : List (Ticked D))
      (old : JournalView D) (state : State) (new : JournalView D) : Type 0 where
    pub pending : new.pending ≡ pending_along start (records_of history)
    pub batches : new.batches ≡ old.batches
    pub unrefused : state.store_refused ≡ false → faults new.disk ≡ faults old.disk
    pub unfailed : state.store_refused ≡ false → new.refused ≡ false
    pub refused : state.store_refused ≡ true
        → Rose (faults old.disk) (faults new.disk)
        ⊎ ((new.refused ≡ false) × (2 ^ 40 < size_with new))

module _ {D : Type 0} (moment : D → ℕ) where
  -- when an act ended, on the disk's clock; 0 where there is no store
  abbrev pub tick_of : Ticked D → ℕ
  tick_of entry = elim entry.store.value [ None ↦ 0 | Some journal ↦ moment journal.disk ]

  -- no act ended before one that is before it
  abbrev pub TicksNeverFall : List (Ticked D) → Type 0
  TicksNeverFall [] = Unit {0}
  TicksNeverFall (entry ∷ later) =
      AllByRecursion (λ one. tick_of entry ≤ tick_of one) later × TicksNeverFall later

  -- the stable number after the records of the acts that had ended by a moment
  abbrev pub stable_by : State → List (Ticked D) → ℕ → ℕ
  stable_by start history at =
      (state_after start (records_of (filter (λ entry. nat_le (tick_of entry) at) history))).stable

  -- At a moment the image stands for the rows after so many records of the history, not fewer than
  -- were stable by then.
  pub record IsLeftBy (start : State) (history : List (Ticked D)) (at : ℕ) (image : Image)
      : Type 0 where
    pub count : ℕ
    pub within : count ≤ length history
    pub stable : stable_by start history at ≤ count
    pub stands : StandsFor (rows_after start (records_of history) count) image

module _ {D : Type 0} (moment : D → ℕ) (images_at : D → ℕ → Image → Type 0) where
  -- What a stop leaves of a store since a plain opening, whose acts end in their order. The base
  -- is the rows after as many records as are stable. At each moment a stop leaves the rows after
  -- some of the records, all of those among them that were stable by then.
  pub record StopLeads (start : State) (history : List (Ticked D)) (old : JournalView D)
      (state : State) (new : JournalView D) : Type 0 where
    pub base : IsBase moment images_at state new
        (rows_after start (records_of history) state.stable)
    pub since : AllByRecursion (λ entry. moment old.disk ≤ tick_of moment entry) history
    pub ticked : AllByRecursion (λ entry. tick_of moment entry ≤ moment new.disk) history
    pub rise : TicksNeverFall moment history
    pub any_moment : LeavesOnly moment images_at old.disk new.disk
        (IsLeftBy moment start history)
    pub kept : IsKept (IsLeftNow moment images_at old.disk)
        → IsKept (IsLeftNow moment images_at new.disk)
