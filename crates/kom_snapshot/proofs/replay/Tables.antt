-- Tables of rows by rising number, of which the first rows are replayed.
use Rattle.std.proofs.Common.{◌≡◌, ℕ, ◌+◌, ◌<◌, ◌≤◌, Bool, true, false, cond, List, [], ◌∷◌, ◌++◌, length}
use Rattle.std.proofs.Common.{Some, None, refl, sym, ◌∙◌, ap, inl, inr, arith, subst, append_assoc}
use Rattle.std.specs.Prelude.{map}
use Rattle.std.specs.List.{AllByRecursion, filter, find, list_any}
use Rattle.std.proofs.lemmas.Bool.{cases_Bool, le-ltb, ne_eqb, eq-eqb, or_parts}
use Rattle.std.proofs.lemmas.List.Folds.{list_any-append}
use Rattle.row_table.specs.Tables.{row_of, with_row, changed_row, AllAbove, IsByNumber}
use Rattle.kom_snapshot.proofs.Counting.{count-append, count-cons}

-- the counters of rows from which nothing is drawn
abbrev pub ones : ℕ → ℕ
ones number = 1

-- ---- what holds of all, of one of them and of those before it
module _ {X : Type 0} where
  pub all-at : (P : X → Type 0) (front : List X) (row : X) (rest : List X) →
      AllByRecursion P (front ++ row ∷ rest) → P row
  all-at P [] row rest all = all.0
  all-at P (first ∷ front) row rest all = all-at P front row rest all.1

  pub all-front : (P : X → Type 0) (front rest : List X) → AllByRecursion P (front ++ rest) → AllByRecursion P front
  all-front P [] rest all = tt
  all-front P (first ∷ front) rest all = (all.0, all-front P front rest all.1)

  pub all-back : (P : X → Type 0) (front rest : List X) → AllByRecursion P (front ++ rest) → AllByRecursion P rest
  all-back P [] rest all = all
  all-back P (first ∷ front) rest all = all-back P front rest all.1

  pub any-front : (test : X → Bool) (front rest : List X) → list_any test (front ++ rest) ≡ false →
      list_any test front ≡ false
  any-front test front rest none =
      (or_parts (list_any test front) (list_any test rest) (sym (list_any-append test front rest) ∙ none)).0

  pub any-mapped : {Y : Type 0} (test : X → Bool) (test' : Y → Bool) (change : X → Y) →
      ((row : X) → test' (change row) ≡ test row) → (rows : List X) →
      list_any test' (map change rows) ≡ list_any test rows
  any-mapped test test' change same [] = refl
  any-mapped test test' change same (row ∷ rows) = rw (same row, any-mapped test test' change same rows) refl

  -- of rows of which one at most passes, none passes before the one that does
  pub none-before : (test : X → Bool) (front : List X) (row : X) (rest : List X) →
      length (filter test (front ++ row ∷ rest)) ≤ 1 → test row ≡ true → find test front ≡ None
  none-before test front row rest few passes =
      let all = count-append test front (row ∷ rest) in
      let one : length (filter test (row ∷ rest)) ≡ 1 + length (filter test rest) =
      count-cons test row rest ∙ ap {B = ℕ} (λ b. cond b 1 0 + length (filter test rest)) passes in
      none front (omega (arith, few, all, one))
    where
      none : (rows : List X) → length (filter test rows) ≤ 0 → find test rows ≡ None
      none [] few = refl
      none (first ∷ rows) few = elim (cases_Bool (test first)) [
        | inl here ↦ let some : length (first ∷ filter test rows) ≤ 0 = rw here at few in absurd (omega (arith, some))
        | inr there ↦ rw there (none rows (rw there at few))
      ]

  -- of rows of which so many pass, fewer pass before one that does
  pub room-before : (test : X → Bool) (most : ℕ) (front : List X) (row : X) (rest : List X) →
      length (filter test (front ++ row ∷ rest)) ≤ most → test row ≡ true → length (filter test front) < most
  room-before test most front row rest few passes =
      let all = count-append test front (row ∷ rest) in
      let one : length (filter test (row ∷ rest)) ≡ 1 + length (filter test rest) =
      count-cons test row rest ∙ ap {B = ℕ} (λ b. cond b 1 0 + length (filter test rest)) passes in
      omega (arith, few, all, one)

  pub all-turned : {Y : Type 0} (P : X → Type 0) (Q : Y → Type 0) (change : X → Y) →
      ((row : X) → P row → Q (change row)) → (rows : List X) → AllByRecursion P rows →
      AllByRecursion Q (map change rows)
  all-turned P Q change each [] all = tt
  all-turned P Q change each (row ∷ rows) all = (each row all.0, all-turned P Q change each rows all.1)

  -- the first that passes
  pub find-first : (test : X → Bool) (front : List X) (row : X) (rest : List X) → find test front ≡ None →
      test row ≡ true → find test (front ++ row ∷ rest) ≡ Some row
  find-first test [] row rest none passes = rw passes refl
  find-first test (first ∷ front) row rest none passes = elim (cases_Bool (test first)) [
    | inl here ↦ let some : Some first ≡ None = rw here at none in absurd (cc)
    | inr there ↦ rw there (find-first test front row rest (rw there at none) passes)
  ]

  pub same-mapped : (change : X → X) (rows : List X) → AllByRecursion (λ row. change row ≡ row) rows →
      map change rows ≡ rows
  same-mapped change [] same = refl
  same-mapped change (row ∷ rows) same = let first = same.0 in let rest = same-mapped change rows same.1 in
      λ i. first i ∷ rest i

  pub both-mapped : {Y : Type 0} (one other : X → Y) (rows : List X) →
      AllByRecursion (λ row. one row ≡ other row) rows → map one rows ≡ map other rows
  both-mapped one other [] same = refl
  both-mapped one other (row ∷ rows) same =
      let first = same.0 in let rest = both-mapped one other rows same.1 in λ i. first i ∷ rest i

-- ---- numbers that rise
module _ {R : Type 0} (number_of : R → ℕ) where
  abbrev pub AllBelow : ℕ → List R → Type 0
  AllBelow number rows = AllByRecursion (λ one. number_of one < number) rows

  pub below-one : (front : List R) (row : R) (rest : List R) → IsByNumber number_of (front ++ row ∷ rest) →
      AllBelow (number_of row) front
  below-one [] row rest rising = tt
  below-one (first ∷ front) row rest rising =
      (all-at (λ one. number_of first < number_of one) front row rest rising.0, below-one front row rest rising.1)

  pub above-one : (front : List R) (row : R) (rest : List R) → IsByNumber number_of (front ++ row ∷ rest) →
      AllAbove number_of (number_of row) rest
  above-one [] row rest rising = rising.0
  above-one (first ∷ front) row rest rising = above-one front row rest rising.1

  pub below-mapped : (change : R → R) → ((row : R) → number_of (change row) ≡ number_of row) → (number : ℕ)
      (rows : List R) → AllBelow number rows → AllBelow number (map change rows)
  below-mapped change keeps number [] below = tt
  below-mapped change keeps number (row ∷ rows) below =
      (omega (arith, keeps row, below.0), below-mapped change keeps number rows below.1)

  pub above-mapped : (change : R → R) → ((row : R) → number_of (change row) ≡ number_of row) → (number : ℕ)
      (rows : List R) → AllAbove number_of number rows → AllAbove number_of number (map change rows)
  above-mapped change keeps number [] above = tt
  above-mapped change keeps number (row ∷ rows) above =
      (omega (arith, keeps row, above.0), above-mapped change keeps number rows above.1)

  -- a row of a greater number comes last
  pub row-last : (row : R) (rows : List R) → AllBelow (number_of row) rows →
      with_row number_of row rows ≡ rows ++ row ∷ []
  row-last row [] below = refl
  row-last row (first ∷ rows) below =
      let less : number_of first < number_of row = below.0 in
      rw (
        ne_eqb (number_of row) (number_of first) (λ e. omega (arith, e, less)),
        le-ltb (number_of row) (number_of first) (omega (arith, less)),
      ) (ap (λ (l : List R). first ∷ l) (row-last row rows below.1))

  -- the row of a number among those of lower and greater ones
  pub row-there : (row : R) (front rest : List R) → AllBelow (number_of row) front →
      row_of number_of (number_of row) (front ++ row ∷ rest) ≡ Some row
  row-there row [] rest below = rw (eq-eqb (number_of row) (number_of row) refl) refl
  row-there row (first ∷ front) rest below =
      let less : number_of first < number_of row = below.0 in
      rw (ne_eqb (number_of first) (number_of row) (λ e. omega (arith, e, less))) (row-there row front rest below.1)

  pub row-absent : (number : ℕ) (rows : List R) → AllBelow number rows → row_of number_of number rows ≡ None
  row-absent number [] below = refl
  row-absent number (first ∷ rows) below =
      let less : number_of first < number = below.0 in
      rw (ne_eqb (number_of first) number (λ e. omega (arith, e, less))) (row-absent number rows below.1)

  unchanged-above : (number : ℕ) (change : R → R) (rows : List R) → AllAbove number_of number rows →
      changed_row number_of number change rows ≡ rows
  unchanged-above number change [] above = refl
  unchanged-above number change (first ∷ rows) above =
      let more : number < number_of first = above.0 in
      rw (ne_eqb (number_of first) number (λ e. omega (arith, e, more)))
      (ap (λ (l : List R). first ∷ l) (unchanged-above number change rows above.1))

  pub row-changed : (row : R) (change : R → R) (front rest : List R) → AllBelow (number_of row) front →
      AllAbove number_of (number_of row) rest →
      changed_row number_of (number_of row) change (front ++ row ∷ rest) ≡ front ++ change row ∷ rest
  row-changed row change [] rest below above =
      rw (eq-eqb (number_of row) (number_of row) refl)
      (ap (λ (l : List R). change row ∷ l) (unchanged-above (number_of row) change rest above))
  row-changed row change (first ∷ front) rest below above =
      let less : number_of first < number_of row = below.0 in
      rw (ne_eqb (number_of first) (number_of row) (λ e. omega (arith, e, less)))
      (ap (λ (l : List R). first ∷ l) (row-changed row change front rest below.1 above))

  -- each row is found by its number
  pub own-rows : (front rest all : List R) → front ++ rest ≡ all → IsByNumber number_of all →
      AllByRecursion (λ row. row_of number_of (number_of row) all ≡ Some row) rest
  own-rows front [] all same rising = tt
  own-rows front (row ∷ rest) all same rising =
      let rising' : IsByNumber number_of (front ++ row ∷ rest) = subst (IsByNumber number_of) (sym same) rising in (
        ap (row_of number_of (number_of row)) (sym same)
            ∙ row-there row front rest (below-one front row rest rising'),
        own-rows (front ++ row ∷ []) rest all (append_assoc front (row ∷ []) rest ∙ same) rising,
      )

  -- the number after the last one
  abbrev pub after_all : ℕ → List R → ℕ
  after_all next [] = next
  after_all next (row ∷ rows) = after_all (number_of row + 1) rows

  pub after-within : (bound next : ℕ) (rows : List R) → next ≤ bound → AllBelow bound rows → after_all next rows ≤ bound
  after-within bound next [] within below = within
  after-within bound next (row ∷ rows) within below =
      let less : number_of row < bound = below.0 in
      after-within bound (number_of row + 1) rows (omega (arith, less)) below.1
