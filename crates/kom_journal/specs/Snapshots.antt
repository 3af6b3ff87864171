-- The bytes of a snapshot, and the rows that they stand for.
use Rattle.std.specs.Prelude.{◌≡◌, ◌<◌, ◌+◌, ◌^◌, ◌↔◌, ◌⊎◌, ℕ, Bool, true, List, [], ◌++◌, length}
use Rattle.std.specs.Prelude.{take, drop, Some, flat_map}
use Rattle.std.specs.List.{AllByRecursion}
use Rattle.kom_types.specs.declared.effects.Effect.{Effect}
use Rattle.kom_types.specs.declared.raised.Raised.{Raised}
use Rattle.kom_model.specs.Db.{Db}
use Rattle.kom_model.specs.Effects.{apply_all, all_fit}
use Rattle.kom_snapshot.specs.Snapshot.{Snapshot, stands_for, raise_all, all_may_raise}
use Rattle.batch_log.specs.Batches.{with_length, IsBroken}
use Rattle.effect_codec.specs.Coding.{IsInRange}
use Rattle.effect_codec.specs.Parts.{coded_raised, IsRaisedInRange}
use Rattle.kom_journal.specs.Files.{body_of}
use Rattle.kom_journal.specs.declared.errors.OpenFault.{OpenFault}
use Rattle.kom_journal.specs.declared.errors.OpenFault.TheVariants as fault

-- raised counters, one after the other
abbrev pub coded_counters : List Raised → List ℕ
coded_counters raised = flat_map coded_raised raised

-- The bytes are a snapshot that stands for these rows.
pub record IsSnapshotOf (db : Db) (bytes : List ℕ) : Type 0 where
  pub snapshot : Snapshot
  pub whole : bytes ≡ body_of snapshot.effects ++ coded_counters snapshot.raised
  pub coded : AllByRecursion IsInRange snapshot.effects
  pub raised_coded : AllByRecursion IsRaisedInRange snapshot.raised
  pub stands : stands_for snapshot ≡ Some db

-- they are no snapshot
abbrev pub IsNoSnapshot : List ℕ → Type 0
IsNoSnapshot bytes = (db : Db) → IsSnapshotOf db bytes → ⊥

-- bytes are a snapshot of one state of the rows
abbrev pub IsSnapshotOfOne : Type 0
IsSnapshotOfOne =
    (bytes : List ℕ) (db other : Db) → IsSnapshotOf db bytes → IsSnapshotOf other bytes → db ≡ other

-- What is left of a snapshot: effects that all fit, none where a counter was raised before, and
-- then counters that may be raised so. They lead from the one rows to the others.
pub record Restores (counting : Bool) (db : Db) (bytes : List ℕ) (new : Db) : Type 0 where
  pub effects : List Effect
  pub raised : List Raised
  pub whole : bytes ≡ body_of effects ++ coded_counters raised
  pub none : counting ≡ true → effects ≡ []
  pub coded : AllByRecursion IsInRange effects
  pub raised_coded : AllByRecursion IsRaisedInRange raised
  pub fit : all_fit effects db ≡ true
  pub may : all_may_raise raised (apply_all effects db) ≡ true
  pub rows : new ≡ raise_all raised (apply_all effects db)

-- the parts that bytes begin with lead from the one rows to the others: from these, what is left
-- leads to the same as from those all the bytes do
abbrev pub MakesSnapshot : Bool → Db → Bool → Db → List ℕ → List ℕ → Type 0
MakesSnapshot was old is new bytes rest =
    (last : Db) → (Restores is new rest last ↔ Restores was old bytes last)

-- what is left of a snapshot is not these bytes
abbrev pub IsNoRest : Bool → Db → List ℕ → Type 0
IsNoRest counting db bytes = (last : Db) → Restores counting db bytes last → ⊥

-- A snapshot of these rows, after the gate at 24 and its length, ends at this place of the file.
pub record HasSnapshotAt (place : ℕ) (db : Db) (file : List ℕ) : Type 0 where
  pub snapshot : List ℕ
  pub stands : IsSnapshotOf db snapshot
  pub short : length snapshot < 2 ^ 64
  pub starts : take place file ≡ take 25 file ++ with_length snapshot
  pub at : place ≡ 33 + length snapshot

-- after the open gate of a file with a snapshot stand bytes that are none, and a gate after them
pub record HasNoSnapshot (rest : List ℕ) : Type 0 where
  pub body : List ℕ
  pub after : List ℕ
  pub whole : rest ≡ with_length body ++ after
  pub more : 0 < length after
  pub short : length body < 2 ^ 64
  pub none : IsNoSnapshot body

abbrev pub IsNoSnapshotAt : ℕ → List ℕ → Type 0
IsNoSnapshotAt place file =
    (place ≡ 24) × (IsBroken (drop 25 file) ⊎ HasNoSnapshot (drop 25 file))

-- why the snapshot of a file is not read
abbrev pub IsNoSnapshotCause : List ℕ → OpenFault → Type 0
IsNoSnapshotCause file fault.Fault = Unit {0}
IsNoSnapshotCause file (fault.Foreign place byte) = ⊥
IsNoSnapshotCause file (fault.Short len) = ⊥
IsNoSnapshotCause file (fault.Damaged place) = IsNoSnapshotAt place file
IsNoSnapshotCause file (fault.Used len) = ⊥
IsNoSnapshotCause file fault.Memory = Unit {0}
