-- What is kept, and whether one passes, of rows that are changed, or thinned out, where a test cannot tell.
use Rattle.std.proofs.Common.{◌≡◌, ℕ, Bool, true, false, cond, ◌||◌, List, [], ◌∷◌, Some, refl, ap}
use Rattle.std.proofs.Common.{subst, inl, inr, true≢false, sym, eq-eqb, eqb-true, ◌∙◌}
use Rattle.std.specs.Prelude.{map}
use Rattle.std.specs.List.{filter, find, list_any, AllByRecursion}
use Rattle.std.specs.Option.{IfSome}
use Rattle.std.proofs.lemmas.Bool.{cases_Bool, or_cases, or_left, or_right}
use Rattle.kom_model.specs.Kinds.{is_among}

-- what holds of all rows holds of the one that is found
pub IfSome-found : {X : Type 0} (P : X → Type 0) (test : X → Bool) (rows : List X) → AllByRecursion P rows →
    IfSome (find test rows) P
IfSome-found P test [] all = tt
IfSome-found P test (row ∷ rows) all =
    let rest = IfSome-found P test rows all.1 in
    elim (test row) as (λ b. IfSome (cond b (Some row) (find test rows)) P) [ true ↦ all.0 | false ↦ rest ]

-- and the same rows, if the change leaves those
pub filter-unchanged : {X : Type 0} (test : X → Bool) (change : X → X) → ((row : X) → test (change row) ≡ test row) →
    ((row : X) → test row ≡ true → change row ≡ row) → (rows : List X) →
    filter test (map change rows) ≡ filter test rows
filter-unchanged test change tests keeps [] = refl
filter-unchanged test change tests keeps (row ∷ rows) =
    let rest = filter-unchanged test change tests keeps rows in
    elim (cases_Bool (test row)) [
      | inl here ↦ rw (tests row, here) (rw (keeps row here) (ap (λ kept. row ∷ kept) rest))
      | inr there ↦ rw (tests row, there) rest
    ]

-- the rows that two tests keep, over rows of which the change leaves those
pub filter-kept : {X : Type 0} (outer inner : X → Bool) (change : X → X) →
    ((row : X) → outer (change row) ≡ outer row) → ((row : X) → inner (change row) ≡ inner row) →
    ((row : X) → inner row ≡ true → outer row ≡ true → change row ≡ row) → (rows : List X) →
    filter outer (filter inner (map change rows)) ≡ filter outer (filter inner rows)
filter-kept outer inner change outers inners keeps [] = refl
filter-kept outer inner change outers inners keeps (row ∷ rows) =
    let rest = filter-kept outer inner change outers inners keeps rows in
    elim (cases_Bool (inner row)) [
      | inl here ↦ elim (cases_Bool (outer row)) [
        | inl shown ↦ rw (inners row, here) (rw (outers row, shown) (rw (keeps row here shown)
            (ap (λ kept. row ∷ kept) rest)))
        | inr hidden ↦ rw (inners row, here) (rw (outers row, hidden) rest)
      ]
      | inr there ↦ rw (inners row, there) rest
    ]

-- whether a row passes, where only rows are taken out that do not
pub any-thinned : {X : Type 0} (pass test keep : X → Bool) → ((row : X) → pass row ≡ true → keep row ≡ true) →
    (rows : List X) → list_any pass (filter test (filter keep rows)) ≡ list_any pass (filter test rows)
any-thinned pass test keep keeps [] = refl
any-thinned pass test keep keeps (row ∷ rows) =
    let rest = any-thinned pass test keep keeps rows in
    elim (cases_Bool (keep row)) [
      | inl kept ↦ elim (cases_Bool (test row)) [
        | inl here ↦ rw kept (rw here (ap (λ b. pass row || b) rest))
        | inr there ↦ rw kept (rw there rest)
      ]
      | inr gone ↦
          let fails : pass row ≡ false = elim (cases_Bool (pass row)) [
            | inl passes ↦ absurd (true≢false (sym (keeps row passes) ∙ gone))
            | inr fails ↦ fails
          ] in
          elim (cases_Bool (test row)) [
            | inl here ↦ rw gone (rw here (rw fails rest))
            | inr there ↦ rw gone (rw there rest)
          ]
    ]

-- two tests that are alike at all numbers of a list
pub any-same : (test test' : ℕ → Bool) (numbers : List ℕ) →
    ((number : ℕ) → is_among numbers number ≡ true → test number ≡ test' number) →
    list_any test numbers ≡ list_any test' numbers
any-same test test' [] same = refl
any-same test test' (first ∷ numbers) same =
    let here : test first ≡ test' first = same first (or_left _ _ (eq-eqb first first refl)) in
    let rest : list_any test numbers ≡ list_any test' numbers =
    any-same test test' numbers (λ number among. same number (or_right _ _ among)) in
    rw (here, rest) refl

-- a number of a list passes
pub any-among : (test : ℕ → Bool) (numbers : List ℕ) (number : ℕ) → is_among numbers number ≡ true →
    test number ≡ true → list_any test numbers ≡ true
any-among test [] number among passes = absurd (true≢false (sym among))
any-among test (first ∷ numbers) number among passes = elim (or_cases _ _ among) [
  | inl here ↦ or_left _ _ (subst (λ n. test n ≡ true) (sym (eqb-true first number here)) passes)
  | inr there ↦ or_right _ _ (any-among test numbers number there passes)
]
