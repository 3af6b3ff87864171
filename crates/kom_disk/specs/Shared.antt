-- What contracts see of a disk in memory whose bytes change beside it.
use Rattle.std.specs.Prelude.{◌≡◌, ℕ, List, Result, IsErr, [], ◌∷◌, map, if◌then◌else◌, nat_le}
use Rattle.kom_disk.specs.Script.{IsToFail, next_number}
use Rattle.kom_disk.specs.declared.shared_disk.SharedDisk.{SharedDisk}
use Rattle.kom_disk.specs.declared.shared_disk.Change.{Change}
use Rattle.kom_disk.specs.declared.shared_disk.Given.{Given}

-- what is shown at the call of this number: the bytes of the last change that has come
abbrev pub shown_at : List ℕ → List Change → ℕ → List ℕ
shown_at bytes [] number = bytes
shown_at bytes (change ∷ later) number =
    shown_at (if nat_le change.call number then change.bytes.items else bytes) later number

-- what the reads gave, each with its place
abbrev pub reads_given : List Given → List (ℕ × List ℕ)
reads_given given = map (λ (one : Given). (one.at, one.bytes.items)) given

-- A call takes the next number, whether it fails or not, and where that number is to fail it does.
-- What is shown and the script stay.
pub record TakesNumber {T E : Type 0} (old new : SharedDisk) (result : Result T E) : Type 0 where
  pub numbered : new.script.made ≡ next_number old.script.made
  pub fails : IsToFail old.script.fails.items old.script.stop new.script.made → IsErr result
  pub same_fails : new.script.fails.items ≡ old.script.fails.items
  pub same_stop : new.script.stop ≡ old.script.stop
  pub same_start : new.start ≡ old.start
  pub same_changes : new.changes ≡ old.changes
