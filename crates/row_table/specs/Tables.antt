-- Rows that are found by their numbers, listed by rising number.
use Rattle.std.specs.Prelude.{ℕ, ◌<◌, ◌==◌, not, nat_lt, List, [], ◌∷◌, map, filter, find}
use Rattle.std.specs.Prelude.{Option, if◌then◌else◌}
use Rattle.std.specs.List.{AllByRecursion}

-- What a table is to its callers: its rows by rising number, and how many more it takes without
-- memory.
pub record Tabled (R : Type 0) : Type 0 where
  pub rows : List R
  pub spare : ℕ

module _ {R : Type 0} (number_of : R → ℕ) where
  -- the row of a number
  abbrev pub row_of : ℕ → List R → Option R
  row_of number rows = find (λ row. number_of row == number) rows

  -- a row in place of the one of its number, or else among the others by its number
  abbrev pub with_row : R → List R → List R
  with_row row [] = row ∷ []
  with_row row (first ∷ rows) =
      if number_of row == number_of first then row ∷ rows
      else if nat_lt (number_of row) (number_of first) then row ∷ first ∷ rows
      else first ∷ with_row row rows

  -- the row of a number is there no more
  abbrev pub without_row : ℕ → List R → List R
  without_row number rows = filter (λ row. not (number_of row == number)) rows

  -- the row of a number is changed
  abbrev pub changed_row : ℕ → (R → R) → List R → List R
  changed_row number change rows =
      map (λ row. if number_of row == number then change row else row) rows

  -- all rows have numbers above this one
  abbrev pub AllAbove : ℕ → List R → Type 0
  AllAbove number rows = AllByRecursion (λ row. number < number_of row) rows

  -- the numbers of the rows rise strictly
  abbrev pub IsByNumber : List R → Type 0
  IsByNumber [] = Unit {0}
  IsByNumber (row ∷ rows) = AllAbove (number_of row) rows × IsByNumber rows
