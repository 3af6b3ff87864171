-- Tables whose rows have a counter, by the number of the row, that rises as numbers are drawn.
use Rattle.std.proofs.Common.{◌≡◌, ℕ, ◌<◌, ◌≤◌, true, false, cond, ◌==◌, List, [], ◌∷◌, Option, Some, None}
use Rattle.std.proofs.Common.{refl, sym, ◌∙◌, ap, inl, inr, true≢false, subst, eqb-true}
use Rattle.std.specs.Prelude.{map, option_map, is_some, nat_lt}
use Rattle.std.specs.List.{AllByRecursion}
use Rattle.std.proofs.lemmas.Bool.{cases_Bool, ltb-true}
use Rattle.row_table.specs.Tables.{row_of, changed_row}
use Rattle.kom_model.proofs.whole.Counts.{all-along}
use Rattle.kom_model.proofs.whole.Found.{find-mapped}
use Rattle.kom_snapshot.proofs.Rising.{find-passes}

-- a counter is this at one number, and as before at the others
abbrev pub set_at : ℕ → ℕ → (ℕ → ℕ) → ℕ → ℕ
set_at at value counters number = cond (number == at) value (counters number)

-- a row that may be there is there
pub some-row : {R : Type 0} (found : Option R) → is_some found ≡ true → (row : R) × (found ≡ Some row)
some-row None is = absurd (true≢false (sym is))
some-row (Some row) is = (row, refl)

-- a row that has drawn a number
pub drawn-row : {R : Type 0} (next : R → ℕ) (found : Option R) (drawn : ℕ) →
    (elim found [ None ↦ false | Some row ↦ nat_lt drawn (next row) ]) ≡ true →
    (row : R) × ((found ≡ Some row) × (drawn < next row))
drawn-row next None drawn is = absurd (true≢false (sym is))
drawn-row next (Some row) drawn is = (row, (refl, ltb-true drawn (next row) is))

module _ {R : Type 0} (number_of : R → ℕ) where
  -- what is looked for is found where each row is changed, and keeps its number
  pub row-mapped : (change : R → R) → ((row : R) → number_of (change row) ≡ number_of row) → (number : ℕ)
      (rows : List R) → row_of number_of number (map change rows) ≡ option_map change (row_of number_of number rows)
  row-mapped change keeps number rows =
      find-mapped (λ row. number_of row == number) change (λ row. ap (λ n. n == number) (keeps row)) rows

  pub there-mapped : (change : R → R) → ((row : R) → number_of (change row) ≡ number_of row) → (number : ℕ)
      (rows : List R) → is_some (row_of number_of number rows) ≡ true →
      is_some (row_of number_of number (map change rows)) ≡ true
  there-mapped change keeps number rows there =
      let found = some-row (row_of number_of number rows) there in
      ap is_some (row-mapped change keeps number rows ∙ ap (option_map change) found.1)

  pub number-found : (number : ℕ) (rows : List R) (row : R) → row_of number_of number rows ≡ Some row →
      number_of row ≡ number
  number-found number rows row found =
      eqb-true (number_of row) number (find-passes (λ row. number_of row == number) rows row found)

  module _ (put : ℕ → R → R) (keeps : (n : ℕ) (row : R) → number_of (put n row) ≡ number_of row) where
    abbrev pub counting : (ℕ → ℕ) → List R → List R
    counting counters rows = map (λ row. put (counters (number_of row)) row) rows

    pub row-counting : (counters : ℕ → ℕ) (number : ℕ) (rows : List R) (row : R) →
        row_of number_of number rows ≡ Some row →
        row_of number_of number (counting counters rows) ≡ Some (put (counters number) row)
    row-counting counters number rows row found =
        row-mapped (λ row. put (counters (number_of row)) row) (λ row. keeps (counters (number_of row)) row) number rows
        ∙ ap (option_map (λ row. put (counters (number_of row)) row)) found
        ∙ ap (λ n. Some (put (counters n) row)) (number-found number rows row found)

    -- a number is drawn from one of the rows
    pub drawn-counting : (at value : ℕ) (change : R → R) →
        ((n : ℕ) (row : R) → change (put n row) ≡ put value row) → (counters : ℕ → ℕ) (rows : List R) →
        changed_row number_of at change (counting counters rows) ≡ counting (set_at at value counters) rows
    drawn-counting at value change changes counters [] = refl
    drawn-counting at value change changes counters (row ∷ rows) =
        let rest = drawn-counting at value change changes counters rows in
        let number : ℕ = counters (number_of row) in
        let first : cond (number_of (put number row) == at) (change (put number row)) (put number row)
        ≡ put (set_at at value counters (number_of row)) row = by number row in
        λ i. first i ∷ rest i
      where
        by : (number : ℕ) (row : R) →
            cond (number_of (put number row) == at) (change (put number row)) (put number row)
            ≡ put (cond (number_of row == at) value number) row
        by number row = elim (cases_Bool (number_of row == at)) [
          | inl here ↦ rw (keeps number row, here) (changes number row)
          | inr there ↦ rw (keeps number row, there) refl
        ]

  -- counters stay within what each row has
  pub drawn-within : (next : R → ℕ) (at value : ℕ) (counters : ℕ → ℕ) (rows : List R) →
      AllByRecursion (λ row. row_of number_of (number_of row) rows ≡ Some row) rows →
      ((row : R) → row_of number_of at rows ≡ Some row → value ≤ next row) →
      AllByRecursion (λ row. counters (number_of row) ≤ next row) rows →
      AllByRecursion (λ row. set_at at value counters (number_of row) ≤ next row) rows
  drawn-within next at value counters rows own bound within =
      all-along (λ row. row_of number_of (number_of row) rows ≡ Some row) (λ row. counters (number_of row) ≤ next row)
      (λ row. set_at at value counters (number_of row) ≤ next row) one rows own within
    where
      one : (row : R) → row_of number_of (number_of row) rows ≡ Some row → counters (number_of row) ≤ next row →
          set_at at value counters (number_of row) ≤ next row
      one row mine less = elim (cases_Bool (number_of row == at)) [
        | inl here ↦ rw here (bound row (subst (λ n. row_of number_of n rows ≡ Some row)
            (eqb-true (number_of row) at here) mine))
        | inr there ↦ rw there less
      ]
