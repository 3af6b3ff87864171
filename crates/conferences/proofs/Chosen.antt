-- The numbers of the rows that pass a test, and what becomes of them as the rows change.
use Rattle.std.proofs.Common.{◌≡◌, ℕ, ◌≤◌, ◌⊎◌, Bool, true, false, cond, eqb, List, [], ◌∷◌, length}
use Rattle.std.proofs.Common.{map, filter}
use Rattle.std.proofs.Common.{Option, Some, None, refl, sym, ap, ◌∙◌, inl, inr, arith}
use Rattle.std.proofs.lemmas.Bool.{cases_eq, cases_Bool, cond_both, ne_eqb, eq-eqb}
use Rattle.std.proofs.lemmas.List.{length-map}
use Rattle.row_table.specs.Tables.{row_of, without_row, changed_row, AllAbove, IsByNumber}
use Rattle.row_table.proofs.Rows.{same_rows, row_of-with_row, IsByNumber-with_row, row_of-without_row}
use Rattle.row_table.proofs.Rows.{IsByNumber-without_row}
use Rattle.conferences.specs.Secret.{IsRising, with_if}
use Rattle.conferences.proofs.Rows.{length-filter_le, row_of-above}

-- numbers are rows that are numbered by themselves
abbrev itself : ℕ → ℕ
itself number = number

-- numbers rise still when one is put in its place or taken out
pub IsRising-listed : (is_in : Bool) (number : ℕ) (numbers : List ℕ) → IsRising numbers →
    IsRising (with_if is_in number numbers)
IsRising-listed true number numbers rising = IsByNumber-with_row itself number numbers rising
IsRising-listed false number numbers rising = IsByNumber-without_row itself number numbers rising

-- of a number that is put in its place or taken out, and of the others, whether it is there
row_of-listed : (is_in : Bool) (other number : ℕ) (numbers : List ℕ) →
    row_of itself other (with_if is_in number numbers)
    ≡ cond (eqb number other) (cond is_in (Some number) None) (row_of itself other numbers)
row_of-listed true other number numbers = row_of-with_row itself other number numbers
row_of-listed false other number numbers = row_of-without_row itself other number numbers

module _ {R : Type 0} (number_of : R → ℕ) (passes : R → Bool) where
  -- the numbers of the rows that pass
  abbrev pub chosen : List R → List ℕ
  chosen rows = map number_of (filter passes rows)

  -- what holds of all numbers holds of those of the rows that pass
  above_chosen : (bound : ℕ) (rows : List R) → AllAbove number_of bound rows → AllAbove itself bound (chosen rows)
  above_chosen bound [] above = tt
  above_chosen bound (row ∷ rows) above =
      let rest : AllAbove itself bound (chosen rows) = above_chosen bound rows above.1 in
      cond_both (passes row) (row ∷ filter passes rows) (filter passes rows)
      (λ kept. AllAbove itself bound (map number_of kept)) (λ _. (above.0, rest)) (λ _. rest)

  -- the numbers rise as the rows do
  IsRising-chosen : (rows : List R) → IsByNumber number_of rows → IsRising (chosen rows)
  IsRising-chosen [] rising = tt
  IsRising-chosen (row ∷ rows) rising =
      let rest : IsRising (chosen rows) = IsRising-chosen rows rising.1 in
      cond_both (passes row) (row ∷ filter passes rows) (filter passes rows)
      (λ kept. IsRising (map number_of kept)) (λ _. (above_chosen (number_of row) rows rising.0, rest)) (λ _. rest)

  -- there are no more of them than rows
  pub length-chosen : (rows : List R) → length (chosen rows) ≤ length rows
  length-chosen rows = rw length-map (length-filter_le passes rows)

  -- the number of a row that passes
  abbrev number_if : Option R → Option ℕ
  number_if None = None
  number_if (Some row) = cond (passes row) (Some (number_of row)) None

  -- of one of two rows
  number_if-cond : (b : Bool) (x y : Option R) → number_if (cond b x y) ≡ cond b (number_if x) (number_if y)
  number_if-cond true x y = refl
  number_if-cond false x y = refl

  -- a number is among them where its row passes
  row_of-chosen : (number : ℕ) (rows : List R) → IsByNumber number_of rows →
      row_of itself number (chosen rows) ≡ number_if (row_of number_of number rows)
  row_of-chosen number [] rising = refl
  row_of-chosen number (row ∷ rows) rising =
      by (row_of-chosen number rows rising.1) (cases_eq (number_of row) number) (cases_Bool (passes row))
    where
      by : row_of itself number (chosen rows) ≡ number_if (row_of number_of number rows) →
          (number_of row ≡ number) ⊎ (number_of row ≡ number → ⊥) → (passes row ≡ true) ⊎ (passes row ≡ false) →
          row_of itself number (chosen (row ∷ rows)) ≡ number_if (row_of number_of number (row ∷ rows))
      by later (inl same) (inl hit) =
          let here : eqb (number_of row) number ≡ true = eq-eqb _ _ same in rw (hit, here, hit) refl
      by later (inl same) (inr miss) =
          let here : eqb (number_of row) number ≡ true = eq-eqb _ _ same in
          let below : number ≤ number_of row = omega arith in
          let none : row_of number_of number rows ≡ None =
          row_of-above number_of number (number_of row) rows below rising.0 in
          rw (miss, here, miss) (later ∙ ap number_if none)
      by later (inr apart) (inl hit) =
          let other : eqb (number_of row) number ≡ false = ne_eqb _ _ apart in rw (hit, other) later
      by later (inr apart) (inr miss) =
          let other : eqb (number_of row) number ≡ false = ne_eqb _ _ apart in rw (miss, other) later

  -- where the row of one number alone is another now, or is gone, that number alone is put in or taken out
  pub chosen-updated : (old new : List R) (number : ℕ) (row : Option R) (is_in : Bool) →
      IsByNumber number_of old → IsByNumber number_of new →
      ((other : ℕ) → row_of number_of other new ≡ cond (eqb number other) row (row_of number_of other old)) →
      number_if row ≡ cond is_in (Some number) None → chosen new ≡ with_if is_in number (chosen old)
  chosen-updated old new number row is_in rising rising' changes is =
      same_rows itself (chosen new) (with_if is_in number (chosen old)) (IsRising-chosen new rising')
      (IsRising-listed is_in number (chosen old) (IsRising-chosen old rising))
      (λ other.
      row_of-chosen other new rising' ∙ ap number_if (changes other)
      ∙ number_if-cond (eqb number other) row (row_of number_of other old)
      ∙ ap (λ at. cond (eqb number other) at (number_if (row_of number_of other old))) is
      ∙ sym (row_of-listed is_in other number (chosen old)
      ∙ ap (λ rest. cond (eqb number other) (cond is_in (Some number) None) rest) (row_of-chosen other old rising)))

  -- a row that is taken out
  pub chosen-without_row : (number : ℕ) (rows : List R) →
      chosen (without_row number_of number rows) ≡ with_if false number (chosen rows)
  chosen-without_row number [] = refl
  chosen-without_row number (row ∷ rows) =
      by (chosen-without_row number rows) (cases_Bool (eqb (number_of row) number)) (cases_Bool (passes row))
    where
      by : chosen (without_row number_of number rows) ≡ with_if false number (chosen rows) →
          (eqb (number_of row) number ≡ true) ⊎ (eqb (number_of row) number ≡ false) →
          (passes row ≡ true) ⊎ (passes row ≡ false) →
          chosen (without_row number_of number (row ∷ rows)) ≡ with_if false number (chosen (row ∷ rows))
      by later (inl at) (inl hit) = rw (at, hit, at) later
      by later (inl at) (inr miss) = rw (at, miss) later
      by later (inr other) (inl hit) = rw (other, hit, other) (ap (λ rest. number_of row ∷ rest) later)
      by later (inr other) (inr miss) = rw (other, miss) later

  -- a change that keeps each row's number, and what the test says of it
  pub chosen-changed_row : (change : R → R) → ((row : R) → number_of (change row) ≡ number_of row) →
      ((row : R) → passes (change row) ≡ passes row) → (number : ℕ) (rows : List R) →
      chosen (changed_row number_of number change rows) ≡ chosen rows
  chosen-changed_row change keeps passes_still number [] = refl
  chosen-changed_row change keeps passes_still number (row ∷ rows) =
      by (cond (eqb (number_of row) number) (change row) row)
      (cond_both (eqb (number_of row) number) (change row) row (λ now. number_of now ≡ number_of row)
      (λ _. keeps row) (λ _. refl))
      (cond_both (eqb (number_of row) number) (change row) row (λ now. passes now ≡ passes row)
      (λ _. passes_still row) (λ _. refl))
      (chosen-changed_row change keeps passes_still number rows) (cases_Bool (passes row))
    where
      by : (now : R) → number_of now ≡ number_of row → passes now ≡ passes row →
          chosen (changed_row number_of number change rows) ≡ chosen rows →
          (passes row ≡ true) ⊎ (passes row ≡ false) →
          chosen (now ∷ changed_row number_of number change rows) ≡ chosen (row ∷ rows)
      by now at same later (inl hit) =
          let hit' : passes now ≡ true = same ∙ hit in
          rw (hit, hit', at) (ap (λ rest. number_of row ∷ rest) later)
      by now at same later (inr miss) = let miss' : passes now ≡ false = same ∙ miss in rw (miss, miss') later
