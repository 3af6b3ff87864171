-- What is kept while a body is read a block at a time.
use Rattle.std.proofs.Common.{◌≡◌, ◌<◌, ◌≤◌, ℕ, Bool, IsTrue, List}
use Rattle.kom_disk.specs.Moments.{LeavesOnly}
use Rattle.batch_log.specs.Walk.{Stays}
use Rattle.kom_journal.specs.Reading.{part}

-- the disk is only read
pub record Looks {D : Type 0} (tells : Bool) (bytes : D → List ℕ) (size faults moment : D → ℕ)
    (images : D → List ℕ → Type 0) (images_at : D → ℕ → List ℕ → Type 0) (old now : D) : Type 0 where
  pub same_size : size now ≡ size old
  pub same_faults : faults now ≡ faults old
  pub same_bytes : IsTrue tells → bytes now ≡ bytes old
  pub stop : IsTrue tells → LeavesOnly moment images_at old now (Stays (images old))

-- the body up to a place was made
pub record MakesTo {M : Type 0} (tells : Bool) (makes : M → M → List ℕ → List ℕ → Type 0) (file : List ℕ)
    (from end at room : ℕ) (old new : M) : Type 0 where
  pub within : at ≤ end
  pub roomy : 0 < room
  pub made : IsTrue tells → makes old new (part from end file) (part at end file)
