-- The row of a number that passes a test, as rows are added, changed and taken away.
use Rattle.std.proofs.Common.{◌≡◌, ℕ, Bool, true, false, cond, eqb, List, [], ◌∷◌, Option, Some, None, refl, sym, ap}
use Rattle.std.proofs.Common.{◌∙◌, ⊎_elim, ◌⊎◌, inl, inr, true≢false, subst}
use Rattle.std.specs.Prelude.{map, option_map, is_some, is_none}
use Rattle.std.specs.List.{find}
use Rattle.std.proofs.lemmas.Bool.{cases_Bool, cases_eq, eq-eqb, ne_eqb}
use Rattle.row_table.specs.Tables.{row_of, with_row, without_row, changed_row}
use Rattle.row_table.proofs.Rows.{row_of-with_row, row_of-without_row, row_of-changed_row}

-- what is found of rows of which a change keeps what is looked for
pub find-mapped : {X : Type 0} (test : X → Bool) (change : X → X) → ((row : X) → test (change row) ≡ test row) →
    (rows : List X) → find test (map change rows) ≡ option_map change (find test rows)
find-mapped test change tests [] = refl
find-mapped test change tests (row ∷ rows) = elim (cases_Bool (test row)) [
  | inl here ↦ rw (tests row) (rw here refl)
  | inr there ↦ rw (tests row) (rw there (find-mapped test change tests rows))
]

-- a row that may be there is there, and passes a test
abbrev pub passes : {R : Type 0} → (R → Bool) → Option R → Bool
passes test found = elim found [ None ↦ false | Some row ↦ test row ]

passes-changed : {R : Type 0} (test test' : R → Bool) (change : R → R) (found : Option R) →
    ((row : R) → found ≡ Some row → test row ≡ true → test' (change row) ≡ true) → passes test found ≡ true →
    passes test' (option_map change found) ≡ true
passes-changed test test' change None keeps is = is
passes-changed test test' change (Some row) keeps is = keeps row refl is

absent-none : {R : Type 0} (found : Option R) → is_none found ≡ true → found ≡ None
absent-none None is = refl
absent-none (Some row) is = absurd (true≢false (sym is))

module _ {R : Type 0} (number_of : R → ℕ) (test : R → Bool) where
  abbrev pub has : ℕ → List R → Bool
  has number rows = passes test (row_of number_of number rows)

  pub has-with_row : (given : R) (rows : List R) → is_none (row_of number_of (number_of given) rows) ≡ true →
      (number : ℕ) → has number rows ≡ true → has number (with_row number_of given rows) ≡ true
  has-with_row given rows absent number is =
      ap (passes test) (row_of-with_row number_of number given rows)
      ∙ ⊎_elim (λ same. absurd (true≢false (sym is ∙ ap (passes test) (ap (λ n. row_of number_of n rows) (sym same)
      ∙ absent-none (row_of number_of (number_of given) rows) absent))))
      (λ apart. rw (ne_eqb (number_of given) number apart) is) (cases_eq (number_of given) number)

  pub has-without : (gone : ℕ) (rows : List R) (number : ℕ) → eqb number gone ≡ false → has number rows ≡ true →
      has number (without_row number_of gone rows) ≡ true
  has-without gone rows number other is =
      ap (passes test) (row_of-without_row number_of number gone rows)
      ∙ ⊎_elim (λ same. absurd (true≢false (sym (eq-eqb number gone (sym same)) ∙ other)))
      (λ apart. rw (ne_eqb gone number apart) is) (cases_eq gone number)

  module _ (change : R → R) (keeps : (row : R) → number_of (change row) ≡ number_of row) where
    pub has-changed : (at : ℕ) (rows : List R) →
        ((row : R) → row_of number_of at rows ≡ Some row → test row ≡ true → test (change row) ≡ true) →
        (number : ℕ) → has number rows ≡ true → has number (changed_row number_of at change rows) ≡ true
    has-changed at rows passed number is =
        ap (passes test) (row_of-changed_row number_of change keeps number at rows) ∙ by (cases_eq at number)
      where
        by : (at ≡ number) ⊎ (at ≡ number → ⊥) →
            passes test (cond (eqb at number) (option_map change (row_of number_of at rows))
            (row_of number_of number rows)) ≡ true
        by (inl same) = rw (eq-eqb at number same) (passes-changed test test change (row_of number_of at rows) passed
            (subst (λ n. passes test (row_of number_of n rows) ≡ true) (sym same) is))
        by (inr apart) = rw (ne_eqb at number apart) is

    -- the row that is changed passes now
    pub has-made : (at : ℕ) (rows : List R) → ((row : R) → test (change row) ≡ true) →
        is_some (row_of number_of at rows) ≡ true → has at (changed_row number_of at change rows) ≡ true
    has-made at rows made is =
        ap (passes test) (row_of-changed_row number_of change keeps at at rows)
        ∙ rw (eq-eqb at at refl) (passes-changed (λ row. true) test change (row_of number_of at rows)
        (λ row found here. made row) is)

    pub has-mapped : (rows : List R) → ((row : R) → test row ≡ true → test (change row) ≡ true) → (number : ℕ) →
        has number rows ≡ true → has number (map change rows) ≡ true
    has-mapped rows passed number is =
        ap (passes test) (find-mapped (λ row. eqb (number_of row) number) change
        (λ row. ap (λ n. eqb n number) (keeps row)) rows)
        ∙ passes-changed test test change (row_of number_of number rows) (λ row found here. passed row here) is
