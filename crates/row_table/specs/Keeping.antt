-- How the rows of a table are kept: in a map, each under its number.
use Rattle.std.specs.Prelude.{◌≡◌, ℕ, nat_eq, List, [], ◌∷◌, Some}
use Rattle.indexmap.specs.IndexMap.{IndexMap, get, values, spare, IsUnique}
use Rattle.row_table.specs.Tables.{Tabled, with_row}

module _ {R : Type 0} (number_of : R → ℕ) where
  -- rows in some order, put by rising number
  abbrev pub by_number : List R → List R
  by_number [] = []
  by_number (row ∷ rows) = with_row number_of row (by_number rows)

  -- what a map of rows is as a table
  abbrev pub table_of : {S : Type 0} → IndexMap ℕ R S → Tabled R
  table_of map = record { rows = by_number (values map); spare = spare map }

  -- no two rows have one number, and each row is kept under its own
  pub record IsKept {S : Type 0} (map : IndexMap ℕ R S) : Type 0 where
    pub unique : IsUnique nat_eq map
    pub numbered : (number : ℕ) (row : R) → get nat_eq map number ≡ Some row
        → number_of row ≡ number
