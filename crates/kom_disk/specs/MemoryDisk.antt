-- What contracts see of a disk in memory.
use Rattle.std.specs.Prelude.{◌≡◌, ◌+◌, ℕ, List, Option, Result, length, take, IsErr, OnOk, OnErr}
use Rattle.kom_disk.specs.Disk.{AddsNone}
use Rattle.kom_disk.specs.Script.{IsToFail, next_number}
use Rattle.kom_disk.specs.Steps.{stable_after, IsImage}
use Rattle.kom_disk.specs.declared.step.Step.{Step}
use Rattle.kom_disk.specs.declared.tear.Tear.{Tear}
use Rattle.kom_disk.specs.declared.tear.Tear.TheVariants.{Nothing}
use Rattle.kom_disk.specs.declared.memory_disk.MemoryDisk.{MemoryDisk}

-- the bytes that reads give
abbrev pub bytes_of : MemoryDisk → List ℕ
bytes_of disk = disk.bytes.items

-- what its calls have done, the first of them first
abbrev pub steps_of : MemoryDisk → List Step
steps_of disk = disk.calls.steps.items

-- the bytes at the last sync, or as it was made
abbrev pub stable_of : MemoryDisk → List ℕ
stable_of disk = stable_after disk.start.items disk.start.items (steps_of disk)

-- what a stop after its first calls could have left
abbrev pub images_after : MemoryDisk → ℕ → List ℕ → Type 0
images_after disk calls = IsImage disk.start.items (take calls (steps_of disk))

-- what a stop now may leave
abbrev pub images_of : MemoryDisk → List ℕ → Type 0
images_of disk = IsImage disk.start.items (steps_of disk)

-- each kept call is a moment
abbrev pub moment_of : MemoryDisk → ℕ
moment_of disk = length (steps_of disk)

abbrev pub faults_of : MemoryDisk → ℕ
faults_of disk = disk.calls.script.faults

-- no write that ends past it succeeds
abbrev pub room_of : MemoryDisk → ℕ
room_of disk = disk.room

-- the number of its last call
abbrev pub calls_of : MemoryDisk → ℕ
calls_of disk = disk.calls.script.made

-- what is left of a write that fails
abbrev pub part_of : MemoryDisk → Tear
part_of disk = disk.part

-- the numbers of the calls that fail
abbrev pub fails_of : MemoryDisk → List ℕ
fails_of disk = disk.calls.script.fails.items

-- after how many calls each call fails
abbrev pub stop_of : MemoryDisk → Option ℕ
stop_of disk = disk.calls.script.stop

-- A call keeps to the script: it takes the next number, whether it fails or not, and where that
-- number is to fail it does. If it fails no byte and no image changes, unless a part is to be left.
pub record KeepsToScript {T E : Type 0} (old new : MemoryDisk) (result : Result T E) : Type 0 where
  pub numbered : calls_of new ≡ next_number (calls_of old)
  pub fails : IsToFail (fails_of old) (stop_of old) (calls_of new) → IsErr result
  pub kept : OnOk result (moment_of new ≡ moment_of old + 1)
  pub bytes_left : part_of old ≡ Nothing → OnErr result (bytes_of new ≡ bytes_of old)
  pub images_left : part_of old ≡ Nothing → OnErr result (AddsNone (images_of old) (images_of new))
  pub same_fails : fails_of new ≡ fails_of old
  pub same_stop : stop_of new ≡ stop_of old
  pub same_room : room_of new ≡ room_of old
  pub same_part : part_of new ≡ part_of old
