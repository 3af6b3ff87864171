-- What a file and the block that waits for it have of the parts of a snapshot.
use Rattle.std.specs.Prelude.{◌≡◌, ◌≢◌, ◌<◌, ◌^◌, ◌⊎◌, ℕ, Bool, IsTrue, List, ◌++◌, Option, None}
use Rattle.std.specs.Prelude.{Some, Result, Err}
use Rattle.std.specs.List.{AllByRecursion}
use Rattle.kom_types.specs.Parts.{Part}
use Rattle.kom_disk.specs.Faults.{Rose}
use Rattle.kom_disk.specs.Moments.{LeavesOnly}
use Rattle.effect_codec.specs.Parts.{IsPartInRange}
use Rattle.store_files.specs.Writing.{SnapshotView, HasSnapshot, IsNoStore}
use Rattle.store_snapshots.specs.Snapshots.{coded_parts}
use Rattle.store_snapshots.specs.declared.errors.Unwritten.{Unwritten}
use Rattle.store_snapshots.specs.declared.errors.Unwritten.TheVariants as unwritten

-- the file has the bytes of these parts, but for those that wait; and their numbers are in range
pub record HasParts {D : Type 0} (tells : Bool) (bytes : D → List ℕ) (size : D → ℕ)
    (parts : List Part) (file : SnapshotView D) (block : List ℕ) : Type 0 where
  pub written : List ℕ
  pub has : HasSnapshot tells bytes size written file
  pub whole : coded_parts parts ≡ written ++ block
  pub coded : AllByRecursion IsPartInRange parts

module _ {D : Type 0} (tells : Bool) (moment : D → ℕ) (images_at : D → ℕ → List ℕ → Type 0)
    (faults : D → ℕ) where
  -- the file goes on: it is the same, or a stop at any moment leaves none that is chosen
  pub record FileGoesOn (old new : SnapshotView D) : Type 0 where
    pub generation : new.generation ≡ old.generation
    pub moments : IsTrue tells
        → (new.disk ≡ old.disk) ⊎ LeavesOnly moment images_at old.disk new.disk IsNoStore

  -- and by a call, which is refused for a reason
  pub record FileComes {T : Type 0} (old new : SnapshotView D) (result : Result T Unwritten)
      : Type 0 where
    pub goes_on : FileGoesOn old new
    pub calm : result ≢ Err unwritten.Fault → faults new.disk ≡ faults old.disk
    pub fault : result ≡ Err unwritten.Fault → Rose (faults old.disk) (faults new.disk)
    pub full : (n : ℕ) → result ≡ Err (unwritten.Full n) → 2 ^ 40 < n

  -- what is known of the file by why a part was refused, if one was
  pub record FileBecomes (first new : SnapshotView D) (was refused : Option Unwritten)
      : Type 0 where
    pub goes_on : FileGoesOn first new
    pub calm : refused ≢ Some unwritten.Fault → faults new.disk ≡ faults first.disk
    pub fault : was ≡ None → refused ≡ Some unwritten.Fault
        → Rose (faults first.disk) (faults new.disk)
    pub full : (n : ℕ) → was ≡ None → refused ≡ Some (unwritten.Full n) → 2 ^ 40 < n
