-- The passes as they are dealt, the one with number 0 last.
use Rattle.std.proofs.Common.{◌≡◌, ℕ, ◌+◌, ◌<◌, List, length, Some, slice_get}
use Rattle.atomic_table.specs.Seated.{TableId}
use Rattle.kom_state_lock.specs.Passes.{PassModel, new_pass}

module _ {B E : Type 0} (table : TableId) where
  -- the passes numbered from 1 up to i
  pub record AreDealt (i : ℕ) (row : List (PassModel B E)) : Type 0 where
    pub long : length row + 1 ≡ i
    pub each : (k : ℕ) → k + 1 < i → slice_get row k ≡ Some (new_pass table (k + 1))
