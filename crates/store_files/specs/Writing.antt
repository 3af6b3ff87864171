-- A file with a snapshot while it is written, and what a stop leaves of it.
use Rattle.std.specs.Prelude.{◌≡◌, ◌<◌, ◌≤◌, ◌+◌, ◌^◌, ◌⊎◌, ℕ, Bool, IsTrue, List, [], ◌∷◌, ◌++◌}
use Rattle.std.specs.Prelude.{replicate, length}
use Rattle.batch_log.specs.Batches.{with_length}
use Rattle.batch_log.specs.Gates.{IsShut}
use Rattle.store_files.specs.Heads.{head_of, live_file}
use Rattle.store_files.specs.Choices.{IsBeside}
use Rattle.store_files.specs.declared.choices.Choice.{Choice}

-- a file whose snapshot is written: a closed gate, and zeros where the length will stand
abbrev pub unfinished_file : ℕ → List ℕ → List ℕ
unfinished_file generation snapshot = head_of generation ++ 0 ∷ replicate 8 0 ++ snapshot

-- a file with a snapshot, and then a closed gate
abbrev pub new_file : ℕ → List ℕ → List ℕ
new_file generation snapshot = live_file generation (with_length snapshot ++ 0 ∷ [])

-- at each moment the file may stand beside what is chosen
abbrev pub StaysBeside : Choice → ℕ → List ℕ → Type 0
StaysBeside choice moment image = IsBeside choice image

-- at each moment it may stand beside any chosen file
abbrev pub IsNoStore : ℕ → List ℕ → Type 0
IsNoStore moment image = (choice : Choice) → IsBeside choice image

-- or it is the new file, whole
abbrev pub IsNoStoreOrNew : ℕ → List ℕ → ℕ → List ℕ → Type 0
IsNoStoreOrNew generation snapshot moment image =
    IsNoStore moment image ⊎ (image ≡ new_file generation snapshot)

-- a file that is being written: its disk, its generation, and how long its snapshot is so far
pub record SnapshotView (D : Type 0) : Type 0 where
  pub disk : D
  pub generation : ℕ
  pub len : ℕ

-- each image has the closed gate before the snapshot
abbrev pub AreShut : ℕ → (List ℕ → Type 0) → Type 0
AreShut generation images =
    (image : List ℕ) → images image → IsShut (head_of generation) 0 image

-- what it keeps: the file has no fewer bytes, there is room for a gate, and each image is shut
pub record IsKeptShut (tells : Bool) (generation len size : ℕ) (images : List ℕ → Type 0)
    : Type 0 where
  pub within : len + 33 ≤ size
  pub room : len + 33 < 2 ^ 40
  pub shut : IsTrue tells → AreShut generation images

-- how long the file gets with a block more and the closed gate after it
abbrev pub size_with : {D : Type 0} → SnapshotView D → List ℕ → ℕ
size_with file block = file.len + 34 + length block

-- the snapshot so far is this, and it ends the file
pub record HasSnapshot {D : Type 0} (tells : Bool) (bytes : D → List ℕ) (size : D → ℕ)
    (snapshot : List ℕ) (file : SnapshotView D) : Type 0 where
  pub ends : size file.disk ≡ file.len + 33
  pub is : IsTrue tells → bytes file.disk ≡ unfinished_file file.generation snapshot
