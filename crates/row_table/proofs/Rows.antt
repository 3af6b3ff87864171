-- Rows by rising number: each change keeps their order, and they are told apart by the row of each number.
use Rattle.std.proofs.Common.{◌≡◌, ℕ, ◌<◌, ◌≤◌, Bool, true, false, cond, not, eqb, ltb, List, [], ◌∷◌, length}
use Rattle.std.proofs.Common.{filter, suc, Option, Some, None, option_map, refl, sym, ap, subst, ◌∙◌, ⊎_elim}
use Rattle.std.proofs.Common.{ne_of_lt, ne_of_gt, le_of_lt, arith}
use Rattle.std.proofs.lemmas.Bool.{cases_eq, cases_order, cond_both, ne_eqb, eq-eqb, eqb-true, eqb-false}
use Rattle.std.proofs.lemmas.Bool.{lt-ltb, le-ltb, ltb-true, ltb-false}
use Rattle.row_table.specs.Tables.{row_of, with_row, without_row, changed_row, AllAbove, IsByNumber}

-- the same test once more
test_twice : {A : Type 0} (b : Bool) (x y z : A) → cond b x (cond b y z) ≡ cond b x z
test_twice true x y z = refl
test_twice false x y z = refl

-- tests for two numbers that differ, in either order
tests_swapped : {A : Type 0} (a b number : ℕ) (x y z : A) → (a ≡ b → ⊥) →
    cond (eqb a number) x (cond (eqb b number) y z) ≡ cond (eqb b number) y (cond (eqb a number) x z)
tests_swapped a b number x y z apart =
    ⊎_elim
    (λ (here : a ≡ number).
    let at : eqb a number ≡ true = eq-eqb _ _ here in
    let other : eqb b number ≡ false = ne_eqb _ _ (λ e. apart (here ∙ sym e)) in
    rw (at, other) refl)
    (λ ne. let not_at : eqb a number ≡ false = ne_eqb _ _ ne in rw not_at refl)
    (cases_eq a number)

module _ {R : Type 0} (number_of : R → ℕ) where
  all_above_from : (low high : ℕ) (rows : List R) → low ≤ high → AllAbove number_of high rows →
      AllAbove number_of low rows
  all_above_from low high [] below above = tt
  all_above_from low high (row ∷ rows) below above =
      (let first : high < number_of row = above.0 in omega arith, all_above_from low high rows below above.1)

  row_of-above : (number : ℕ) (rows : List R) → AllAbove number_of number rows → row_of number_of number rows ≡ None
  row_of-above number [] above = refl
  row_of-above number (row ∷ rows) above =
      let first : number < number_of row = above.0 in
      let other : eqb (number_of row) number ≡ false = ne_eqb _ _ (λ e. omega arith) in
      rw other (row_of-above number rows above.1)

  row_of-first : (number : ℕ) (row : R) (rows : List R) → number_of row ≡ number →
      row_of number_of number (row ∷ rows) ≡ Some row
  row_of-first number row rows at =
      let here : eqb (number_of row) number ≡ true = eq-eqb _ _ at in rw here refl

  row_of-later : (number : ℕ) (row : R) (rows : List R) → (number_of row ≡ number → ⊥) →
      row_of number_of number (row ∷ rows) ≡ row_of number_of number rows
  row_of-later number row rows ne =
      let other : eqb (number_of row) number ≡ false = ne_eqb _ _ ne in rw other refl

  -- where the row of each number is the same, the first number of one list is not below that of the other
  first_not_below : (x y : R) (xs ys : List R) → IsByNumber number_of (y ∷ ys) →
      ((number : ℕ) → row_of number_of number (x ∷ xs) ≡ row_of number_of number (y ∷ ys)) →
      number_of x < number_of y → ⊥
  first_not_below x y xs ys rising same less =
      let above : AllAbove number_of (number_of x) (y ∷ ys) =
      (less, all_above_from (number_of x) (number_of y) ys (omega arith) rising.0) in
      let none : Some x ≡ None = sym (row_of-first (number_of x) x xs refl) ∙ same (number_of x)
      ∙ row_of-above (number_of x) (y ∷ ys) above in cc

  pub same_rows : (xs ys : List R) → IsByNumber number_of xs → IsByNumber number_of ys →
      ((number : ℕ) → row_of number_of number xs ≡ row_of number_of number ys) → xs ≡ ys
  same_rows [] [] rising rising' same = refl
  same_rows [] (y ∷ ys) rising rising' same =
      let none : None ≡ Some y = same (number_of y) ∙ row_of-first (number_of y) y ys refl in cc
  same_rows (x ∷ xs) [] rising rising' same =
      let none : Some x ≡ None = sym (row_of-first (number_of x) x xs refl) ∙ same (number_of x) in cc
  same_rows (x ∷ xs) (y ∷ ys) rising rising' same =
      let level : number_of x ≡ number_of y =
      ⊎_elim (λ e. e) (λ apart. ⊎_elim (λ less. absurd (first_not_below x y xs ys rising' same less))
      (λ more. absurd (first_not_below y x ys xs rising (λ number. sym (same number)) more)) apart)
      (cases_order (number_of x) (number_of y)) in
      let first : Some x ≡ Some y =
      sym (row_of-first (number_of x) x xs refl) ∙ same (number_of x) ∙ row_of-first (number_of x) y ys (sym level) in
      let rest : xs ≡ ys =
      same_rows xs ys rising.1 rising'.1 (λ number. ⊎_elim
      (λ e. row_of-above number xs (subst (λ n. AllAbove number_of n xs) e rising.0)
      ∙ sym (row_of-above number ys (subst (λ n. AllAbove number_of n ys) (sym level ∙ e) rising'.0)))
      (λ ne. sym (row_of-later number x xs ne) ∙ same number ∙ row_of-later number y ys (λ e. ne (level ∙ e)))
      (cases_eq (number_of x) number)) in
      cc

  -- a row that is put in is the row of its number, and the others stay
  pub row_of-with_row : (number : ℕ) (row : R) (rows : List R) →
      row_of number_of number (with_row number_of row rows)
      ≡ cond (eqb (number_of row) number) (Some row) (row_of number_of number rows)
  row_of-with_row number row [] = refl
  row_of-with_row number row (first ∷ rows) =
      let later = row_of-with_row number row rows in
      let rest = row_of number_of number rows in
      ⊎_elim
      (λ same.
      let equal : eqb (number_of row) (number_of first) ≡ true = eq-eqb _ _ same in
      rw (equal, ← same) (sym (test_twice (eqb (number_of row) number) (Some row) (Some first) rest)))
      (⊎_elim
      (λ below.
      let other : eqb (number_of row) (number_of first) ≡ false = ne_eqb _ _ (ne_of_lt below) in
      let less : ltb (number_of row) (number_of first) ≡ true = lt-ltb _ _ below in
      rw (other, less) refl)
      (λ above.
      let other : eqb (number_of row) (number_of first) ≡ false = ne_eqb _ _ (ne_of_gt above) in
      let not_less : ltb (number_of row) (number_of first) ≡ false = le-ltb _ _ (le_of_lt above) in
      rw (other, not_less, later)
      (tests_swapped (number_of first) (number_of row) number (Some first) (Some row) rest (ne_of_lt above))))
      (cases_order (number_of row) (number_of first))

  all_above_with_row : (bound : ℕ) (row : R) (rows : List R) → bound < number_of row →
      AllAbove number_of bound rows → AllAbove number_of bound (with_row number_of row rows)
  all_above_with_row bound row [] below above = (below, tt)
  all_above_with_row bound row (first ∷ rows) below above =
      cond_both (eqb (number_of row) (number_of first)) _ _ (AllAbove number_of bound) (λ _. (below, above.1))
      (λ _. cond_both (ltb (number_of row) (number_of first)) _ _ (AllAbove number_of bound) (λ _. (below, above))
      (λ _. (above.0, all_above_with_row bound row rows below above.1)))

  pub IsByNumber-with_row : (row : R) (rows : List R) → IsByNumber number_of rows →
      IsByNumber number_of (with_row number_of row rows)
  IsByNumber-with_row row [] rising = (tt, tt)
  IsByNumber-with_row row (first ∷ rows) rising =
      cond_both (eqb (number_of row) (number_of first)) _ _ (IsByNumber number_of)
      (λ same. (subst (λ n. AllAbove number_of n rows) (sym (eqb-true _ _ same)) rising.0, rising.1))
      (λ other. cond_both (ltb (number_of row) (number_of first)) _ _ (IsByNumber number_of)
      (λ less.
      let below : number_of row < number_of first = ltb-true _ _ less in
      ((below, all_above_from (number_of row) (number_of first) rows (omega arith) rising.0), rising))
      (λ not_less.
      let least : number_of first ≤ number_of row = ltb-false _ _ not_less in
      let apart : number_of row ≡ number_of first → ⊥ = eqb-false _ _ other in
      (all_above_with_row (number_of first) row rows (omega arith) rising.0, IsByNumber-with_row row rows rising.1)))

  -- the row of the number is gone, and the others stay
  pub row_of-without_row : (number gone : ℕ) (rows : List R) →
      row_of number_of number (without_row number_of gone rows)
      ≡ cond (eqb gone number) None (row_of number_of number rows)
  row_of-without_row number gone [] =
      let none : Option R = None in
      elim (eqb gone number) as (λ b. none ≡ cond b none none) [ true ↦ refl | false ↦ refl ]
  row_of-without_row number gone (row ∷ rows) =
      let later = row_of-without_row number gone rows in
      let rest = row_of number_of number rows in
      ⊎_elim
      (λ same.
      let at : eqb (number_of row) gone ≡ true = eq-eqb _ _ same in
      rw (at, later, ← same) (sym (test_twice (eqb (number_of row) number) None (Some row) rest)))
      (λ ne.
      let other : eqb (number_of row) gone ≡ false = ne_eqb _ _ ne in
      rw (other, later) (tests_swapped (number_of row) gone number (Some row) None rest ne))
      (cases_eq (number_of row) gone)

  all_above_filter : (bound : ℕ) (keep : R → Bool) (rows : List R) → AllAbove number_of bound rows →
      AllAbove number_of bound (filter keep rows)
  all_above_filter bound keep [] above = tt
  all_above_filter bound keep (row ∷ rows) above =
      let rest : AllAbove number_of bound (filter keep rows) = all_above_filter bound keep rows above.1 in
      cond_both (keep row) _ _ (AllAbove number_of bound) (λ _. (above.0, rest)) (λ _. rest)

  IsByNumber-filter : (keep : R → Bool) (rows : List R) → IsByNumber number_of rows →
      IsByNumber number_of (filter keep rows)
  IsByNumber-filter keep [] rising = tt
  IsByNumber-filter keep (row ∷ rows) rising =
      let rest : IsByNumber number_of (filter keep rows) = IsByNumber-filter keep rows rising.1 in
      cond_both (keep row) _ _ (IsByNumber number_of)
      (λ _. (all_above_filter (number_of row) keep rows rising.0, rest)) (λ _. rest)

  pub IsByNumber-without_row : (gone : ℕ) (rows : List R) → IsByNumber number_of rows →
      IsByNumber number_of (without_row number_of gone rows)
  IsByNumber-without_row gone rows rising = IsByNumber-filter (λ row. not (eqb (number_of row) gone)) rows rising

  pub changed_row-absent : (number : ℕ) (change : R → R) (rows : List R) → row_of number_of number rows ≡ None →
      changed_row number_of number change rows ≡ rows
  changed_row-absent number change [] absent = refl
  changed_row-absent number change (row ∷ rows) absent =
      ⊎_elim
      (λ here. let there : Some row ≡ None = sym (row_of-first number row rows here) ∙ absent in cc)
      (λ ne.
      let other : eqb (number_of row) number ≡ false = ne_eqb _ _ ne in
      let rest : changed_row number_of number change rows ≡ rows =
      changed_row-absent number change rows (sym (row_of-later number row rows ne) ∙ absent) in
      rw other (ap (λ rows. row ∷ rows) rest))
      (cases_eq (number_of row) number)

  module _ (change : R → R) (keeps : (row : R) → number_of (change row) ≡ number_of row) where
    changed_keeps : (at : ℕ) (row : R) → number_of (cond (eqb (number_of row) at) (change row) row) ≡ number_of row
    changed_keeps at row =
        cond_both (eqb (number_of row) at) (change row) row (λ new. number_of new ≡ number_of row) (λ _. keeps row)
        (λ _. refl)

    -- the row of the number is changed, and the others stay
    pub row_of-changed_row : (number at : ℕ) (rows : List R) →
        row_of number_of number (changed_row number_of at change rows)
        ≡ cond (eqb at number) (option_map change (row_of number_of at rows)) (row_of number_of number rows)
    row_of-changed_row number at [] =
        let none : Option R = None in
        elim (eqb at number) as (λ b. none ≡ cond b none none) [ true ↦ refl | false ↦ refl ]
    row_of-changed_row number at (row ∷ rows) =
        let later = row_of-changed_row number at rows in
        let rest = row_of number_of number rows in
        let now = option_map change (row_of number_of at rows) in
        rw (changed_keeps at row) (⊎_elim
        (λ same.
        let here : eqb (number_of row) at ≡ true = eq-eqb _ _ same in
        rw (here, later, same) (test_twice (eqb at number) (Some (change row)) now rest
        ∙ sym (test_twice (eqb at number) (Some (change row)) (Some row) rest)))
        (λ ne.
        let other : eqb (number_of row) at ≡ false = ne_eqb _ _ ne in
        rw (other, later) (tests_swapped (number_of row) at number (Some row) now rest ne))
        (cases_eq (number_of row) at))

    all_above_changed : (bound at : ℕ) (rows : List R) → AllAbove number_of bound rows →
        AllAbove number_of bound (changed_row number_of at change rows)
    all_above_changed bound at [] above = tt
    all_above_changed bound at (row ∷ rows) above =
        (rw (changed_keeps at row) above.0, all_above_changed bound at rows above.1)

    pub IsByNumber-changed_row : (at : ℕ) (rows : List R) → IsByNumber number_of rows →
        IsByNumber number_of (changed_row number_of at change rows)
    IsByNumber-changed_row at [] rising = tt
    IsByNumber-changed_row at (row ∷ rows) rising =
        let above = all_above_changed (number_of row) at rows rising.0 in
        (rw (changed_keeps at row) above, IsByNumber-changed_row at rows rising.1)

  -- a row whose number no other has makes one more
  pub length-with_row : (row : R) (rows : List R) → row_of number_of (number_of row) rows ≡ None →
      length (with_row number_of row rows) ≡ suc (length rows)
  length-with_row row [] absent = refl
  length-with_row row (first ∷ rows) absent =
      let IsLonger : List R → Type 0 = λ longer. length longer ≡ suc (suc (length rows)) in
      cond_both (eqb (number_of row) (number_of first)) _ _ IsLonger
      (λ same.
      let there : Some first ≡ None =
      sym (row_of-first (number_of row) first rows (sym (eqb-true _ _ same))) ∙ absent in cc)
      (λ other. cond_both (ltb (number_of row) (number_of first)) _ _ IsLonger (λ _. refl)
      (λ _.
      let ne : number_of first ≡ number_of row → ⊥ = λ e. eqb-false _ _ other (sym e) in
      ap suc (length-with_row row rows (sym (row_of-later (number_of row) first rows ne) ∙ absent))))
