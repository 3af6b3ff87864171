-- The files of a world in memory, and the disks over them.
use Rattle.std.specs.Prelude.{◌≡◌, ℕ, List, [], ◌∷◌, Option, Some, None}
use Rattle.std.specs.Prelude.{if◌then◌else◌, string_bytes}
use Rattle.std.specs.Str.{bytes_eq}
use Rattle.kom_disk.specs.Disk.{Only}
use Rattle.kom_disk.specs.MemoryDisk.{bytes_of, images_of, faults_of, calls_of, moment_of}
use Rattle.kom_disk.specs.MemoryDisk.{room_of, fails_of, stop_of}
use Rattle.kom_disk.specs.declared.memory_disk.MemoryDisk.{MemoryDisk}
use Rattle.memory_links.specs.declared.file_plan.FilePlan.{FilePlan}

-- the last of these files that has this path, or else the one that was found before
abbrev pub file_at : Option FilePlan → List FilePlan → List ℕ → Option FilePlan
file_at found [] path = found
file_at found (file ∷ files) path =
    file_at (if bytes_eq (string_bytes file.path) path then Some file else found) files path

-- the bytes of a file; one that is missing counts as empty
abbrev pub bytes_in : Option FilePlan → List ℕ
bytes_in None = []
bytes_in (Some file) = file.bytes.items

-- the bytes of a path among these files
abbrev pub found_at : List FilePlan → List ℕ → List ℕ
found_at files path = bytes_in (file_at None files path)

-- a disk of which no call was made yet: its bytes, which alone a stop leaves, its room and its
-- script
pub record IsNewDisk (bytes : List ℕ) (room : ℕ) (fails : List ℕ) (stop : Option ℕ)
    (disk : MemoryDisk) : Type 0 where
  pub bytes_there : bytes_of disk ≡ bytes
  pub stable : Only bytes (images_of disk)
  pub no_moment : moment_of disk ≡ 0
  pub no_call : calls_of disk ≡ 0
  pub no_fault : faults_of disk ≡ 0
  pub room_there : room_of disk ≡ room
  pub fails_there : fails_of disk ≡ fails
  pub stop_there : stop_of disk ≡ stop

-- the disk over a file; over one that is missing it has no room
abbrev pub IsDiskOver : Option FilePlan → MemoryDisk → Type 0
IsDiskOver None disk = IsNewDisk [] 0 [] None disk
IsDiskOver (Some file) disk =
    IsNewDisk file.bytes.items file.room file.fails.items file.stop disk
