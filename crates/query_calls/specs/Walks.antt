-- How a walk over memberships comes to a place among those that are shown.
use Rattle.std.specs.Prelude.{◌≡◌, ℕ, Bool, List, filter, drop}

-- A walk over the rows from a place on comes to the same place among those that pass a test, once
-- it has passed over so many that do.
pub record LeadsTo {A : Type 0} (test : A → Bool) (rows : List A) (place passed : ℕ) : Type 0 where
  pub same : drop passed (filter test (drop place rows)) ≡ drop place (filter test rows)
