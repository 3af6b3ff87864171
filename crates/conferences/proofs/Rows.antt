-- Rows by rising number: the row of a number has it, and how many rows a change leaves.
use Rattle.std.proofs.Common.{◌≡◌, ℕ, ◌+◌, ◌<◌, ◌≤◌, ◌⊎◌, Bool, true, false, cond, not, eqb, ltb}
use Rattle.std.proofs.Common.{List, [], ◌∷◌, length, filter}
use Rattle.std.proofs.Common.{Option, Some, None, is_some, option_copied, Bor, suc, refl, sym, ap}
use Rattle.std.proofs.Common.{subst, ◌∙◌, inl, inr, arith}
use Rattle.std.specs.Int.{from_bool}
use Rattle.std.proofs.lemmas.Bool.{false≢true, cases_eq, cond_both, ne_eqb, eq-eqb, eqb-false, ltb-true}
use Rattle.std.proofs.lemmas.List.{length-map}
use Rattle.row_table.specs.Tables.{row_of, with_row, without_row, changed_row, AllAbove, IsByNumber}
use Rattle.row_table.proofs.Rows.{length-with_row}

-- a reference is there where its value is
is_some-copied : {A : Type 0} (o : Option (Bor A)) → is_some (option_copied o) ≡ is_some o
is_some-copied None = refl
is_some-copied (Some x) = refl

-- what is read of a row tells whether it is there
pub is_some-read : {A : Type 0} (read : Option (Bor A)) (found : Option A) (b : Bool) → option_copied read ≡ found →
    is_some read ≡ b → is_some found ≡ b
is_some-read read found b is some = ap is_some (sym is) ∙ is_some-copied read ∙ some

-- an option whose test says no is empty, and one whose test says yes has a value
pub none_from : {A : Type 0} (o : Option A) → is_some o ≡ false → o ≡ None
none_from None none = refl
none_from (Some x) none = absurd (false≢true (sym none))

pub some_from : {A : Type 0} (o : Option A) → is_some o ≡ true → (x : A) × (o ≡ Some x)
some_from None some = absurd (false≢true some)
some_from (Some x) some = (x, refl)

-- a truth value counts as one at most
pub one_at_most : (b : Bool) → from_bool b ≤ 1
one_at_most true = omega arith
one_at_most false = omega arith

-- a filter makes no list longer
pub length-filter_le : {R : Type 0} (keep : R → Bool) (rows : List R) → length (filter keep rows) ≤ length rows
length-filter_le keep [] = omega arith
length-filter_le keep (row ∷ rows) =
    let rest : length (filter keep rows) ≤ length rows = length-filter_le keep rows in
    cond_both (keep row) (row ∷ filter keep rows) (filter keep rows)
    (λ kept. length kept ≤ suc (length rows)) (λ _. omega arith) (λ _. omega arith)

module _ {R : Type 0} (number_of : R → ℕ) where
  -- a row that is taken out makes no list longer, and one that is changed leaves its length
  pub length-without_row : (number : ℕ) (rows : List R) → length (without_row number_of number rows) ≤ length rows
  length-without_row number rows = length-filter_le (λ row. not (eqb (number_of row) number)) rows

  pub length-changed_row : (number : ℕ) (change : R → R) (rows : List R) →
      length (changed_row number_of number change rows) ≡ length rows
  length-changed_row number change rows =
      length-map rows (λ row. cond (eqb (number_of row) number) (change row) row)

  -- no row that is above has the number
  pub row_of-above : (number bound : ℕ) (rows : List R) → number ≤ bound → AllAbove number_of bound rows →
      row_of number_of number rows ≡ None
  row_of-above number bound [] below above = refl
  row_of-above number bound (row ∷ rows) below above =
      let first : bound < number_of row = above.0 in
      let other : eqb (number_of row) number ≡ false = ne_eqb _ _ (λ e. omega arith) in
      rw other (row_of-above number bound rows below above.1)

  -- the row of a number has that number
  pub number-row_of : (number : ℕ) (rows : List R) (row : R) → row_of number_of number rows ≡ Some row →
      number_of row ≡ number
  number-row_of number [] row found = absurd (cc)
  number-row_of number (first ∷ rows) row found =
      by (number-row_of number rows row) (cases_eq (number_of first) number)
    where
      by : (row_of number_of number rows ≡ Some row → number_of row ≡ number) →
          (number_of first ≡ number) ⊎ (number_of first ≡ number → ⊥) → number_of row ≡ number
      by later (inl same) =
          let here : eqb (number_of first) number ≡ true = eq-eqb _ _ same in
          let is : Some first ≡ Some row = rw here at found in
          let is' : first ≡ row = cc in subst (λ one. number_of one ≡ number) is' same
      by later (inr apart) =
          let other : eqb (number_of first) number ≡ false = ne_eqb _ _ apart in later (rw other at found)

  -- a row in place of one of its number makes no more
  length-replaced : (row old : R) (rows : List R) → IsByNumber number_of rows →
      row_of number_of (number_of row) rows ≡ Some old → length (with_row number_of row rows) ≡ length rows
  length-replaced row old [] rising found = absurd (cc)
  length-replaced row old (first ∷ rows) rising found =
      let IsAsLong : List R → Type 0 = λ now. length now ≡ suc (length rows) in
      cond_both (eqb (number_of row) (number_of first)) _ _ IsAsLong (λ _. refl)
      (λ apart.
      let other : eqb (number_of first) (number_of row) ≡ false = ne_eqb _ _ (λ e. eqb-false _ _ apart (sym e)) in
      let later : row_of number_of (number_of row) rows ≡ Some old = rw other at found in
      cond_both (ltb (number_of row) (number_of first)) _ _ IsAsLong
      (λ less.
      let below : number_of row < number_of first = ltb-true _ _ less in
      let none : None ≡ Some old =
      sym (row_of-above (number_of row) (number_of first) rows (omega arith) rising.0) ∙ later in absurd (cc))
      (λ _. ap suc (length-replaced row old rows rising.1 later)))

  -- a row that is put in makes one more, if none of its number is there
  pub length-put : (row : R) (rows : List R) (is_new : Bool) → IsByNumber number_of rows →
      is_some (row_of number_of (number_of row) rows) ≡ not is_new →
      length (with_row number_of row rows) ≡ length rows + from_bool is_new
  length-put row rows true rising is = let longer = length-with_row number_of row rows (none_from _ is) in omega arith
  length-put row rows false rising is =
      let there = some_from _ is in let same = length-replaced row there.0 rows rising there.1 in omega arith
