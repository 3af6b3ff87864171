-- How many rows pass a test, as rows are changed, taken out and put back.
use Rattle.std.proofs.Common.{◌≡◌, ℕ, ◌+◌, ◌≤◌, Bool, cond, not, List, [], ◌∷◌, ◌++◌, length}
use Rattle.std.proofs.Common.{Some, refl, ◌∙◌, ap, inl, inr, arith}
use Rattle.std.specs.Prelude.{map}
use Rattle.std.specs.List.{AllByRecursion, filter, find}
use Rattle.std.proofs.lemmas.Bool.{cases_Bool}

abbrev pub one_if : Bool → ℕ
one_if b = cond b 1 0

module _ {X : Type 0} where
  -- a row, and those after it
  pub count-cons : (test : X → Bool) (row : X) (rows : List X) →
      length (filter test (row ∷ rows)) ≡ one_if (test row) + length (filter test rows)
  count-cons test row rows = elim (cases_Bool (test row)) [
    | inl here ↦ rw here (omega arith)
    | inr there ↦ rw there (omega arith)
  ]

  pub count-append : (test : X → Bool) (rows more : List X) →
      length (filter test (rows ++ more)) ≡ length (filter test rows) + length (filter test more)
  count-append test [] more = omega arith
  count-append test (row ∷ rows) more =
      let rest = count-append test rows more in
      let one = count-cons test row rows in
      let all = count-cons test row (rows ++ more) in
      omega (arith, rest, one, all)

  -- rows that pass after a change are those that passed another test before it
  pub count-changed : (test test' : X → Bool) (change : X → X) (rows : List X) →
      AllByRecursion (λ row. test' (change row) ≡ test row) rows →
      length (filter test' (map change rows)) ≡ length (filter test rows)
  count-changed test test' change [] same = refl
  count-changed test test' change (row ∷ rows) same =
      let rest = count-changed test test' change rows same.1 in
      let one = count-cons test row rows in
      let other = count-cons test' (change row) (map change rows) in
      let equal : cond {A = ℕ} (test' (change row)) 1 0 ≡ cond (test row) 1 0 =
      ap {B = ℕ} (λ (b : Bool). cond b 1 0) same.0 in
      omega (arith, rest, one, other, equal)

  -- rows are those that a test keeps, and the others
  pub count-split : (test keep : X → Bool) (rows : List X) →
      length (filter test rows)
      ≡ length (filter test (filter keep rows)) + length (filter test (filter (λ row. not (keep row)) rows))
  count-split test keep [] = refl
  count-split test keep (row ∷ rows) =
      let rest : length (filter test rows)
      ≡ length (filter test (filter keep rows)) + length (filter test (filter (λ row. not (keep row)) rows)) =
      count-split test keep rows in
      let one = count-cons test row rows in
      elim (cases_Bool (keep row)) [
        | inl kept ↦ rw kept (omega (arith, rest, one, count-cons test row (filter keep rows)))
        | inr gone ↦ rw gone
            (omega (arith, rest, one, count-cons test row (filter (λ row. not (keep row)) rows)))
      ]

  pub filter-changed : (test : X → Bool) (change : X → X) → ((row : X) → test (change row) ≡ test row) →
      (rows : List X) → filter test (map change rows) ≡ map change (filter test rows)
  filter-changed test change tests [] = refl
  filter-changed test change tests (row ∷ rows) = elim (cases_Bool (test row)) [
    | inl here ↦ rw (tests row) (rw here (ap (λ others. change row ∷ others) (filter-changed test change tests rows)))
    | inr there ↦ rw (tests row) (rw there (filter-changed test change tests rows))
  ]

  none-left : (rows : List X) → length rows ≤ 0 → rows ≡ []
  none-left [] few = refl
  none-left (row ∷ rows) few = absurd (omega (arith, few))

  -- the only row that passes is the one that is found
  pub found-alone : (test : X → Bool) (rows : List X) (row : X) → find test rows ≡ Some row →
      length (filter test rows) ≤ 1 → filter test rows ≡ row ∷ []
  found-alone test [] row found few = absurd (cc)
  found-alone test (first ∷ rows) row found few = elim (cases_Bool (test first)) [
    | inl here ↦
        let same : Some first ≡ Some row = rw here at found in
        let few' : length (first ∷ filter test rows) ≤ 1 = rw here at few in
        let none = none-left (filter test rows) (omega (arith, few')) in
        let is : first ≡ row = cc in
        rw here (ap (λ rest. first ∷ rest) none ∙ ap (λ one. one ∷ []) is)
    | inr there ↦ rw there (found-alone test rows row (rw there at found) (rw there at few))
  ]

  -- rows that pass a test are replaced by one that passes it
  pub count-replaced : (test key : X → Bool) (given : X) (rows : List X) →
      length (filter test (map (λ row. cond (key row) given row) rows))
      ≡ cond (test given) (length (filter key rows)) 0 + length (filter test (filter (λ row. not (key row)) rows))
  count-replaced test key given [] = elim (cases_Bool (test given)) [
    | inl passes ↦ rw passes refl
    | inr fails ↦ rw fails refl
  ]
  count-replaced test key given (row ∷ rows) =
      let rest = count-replaced test key given rows in
      elim (cases_Bool (key row)) [
        | inl is ↦ elim (cases_Bool (test given)) [
          | inl passes ↦
              let rest' : length (filter test (map (λ row. cond (key row) given row) rows))
              ≡ length (filter key rows) + length (filter test (filter (λ row. not (key row)) rows)) =
              rw passes at rest in
              rw (is, passes) (omega (arith, rest'))
          | inr fails ↦
              let rest' : length (filter test (map (λ row. cond (key row) given row) rows))
              ≡ 0 + length (filter test (filter (λ row. not (key row)) rows)) =
              rw fails at rest in
              rw (is, fails) (omega (arith, rest'))
        ]
        | inr other ↦ rw other
            (let rest' : length (filter test (map (λ row. cond (key row) given row) rows))
            ≡ cond (test given) (length (filter key rows)) 0
            + length (filter test (filter (λ row. not (key row)) rows)) = rest in
            omega (
              arith,
              rest',
              count-cons test row (map (λ row. cond (key row) given row) rows),
              count-cons test row (filter (λ row. not (key row)) rows),
            ))
      ]
