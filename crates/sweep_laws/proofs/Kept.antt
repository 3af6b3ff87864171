-- What filters keep, one after the other.
use Rattle.std.proofs.Common.{◌≡◌, ℕ, ◌==◌, ◌||◌, ◌&&◌, Bool, true, false, not, List, [], ◌∷◌, ◌++◌, None, refl, sym}
use Rattle.std.proofs.Common.{ap, ◌∙◌, inl, inr, eqb-true, eq-eqb, true≢false}
use Rattle.std.specs.List.{AllByRecursion, filter, find}
use Rattle.std.proofs.lemmas.Bool.{cases_Bool, false_from_ne_true}
use Rattle.kom_model.specs.Kinds.{is_among}
use Rattle.sweep_laws.specs.Without.{stays}

-- two tests that agree on all rows that are there
pub filter-alike : {X : Type 0} (one other : X → Bool) (rows : List X) →
    AllByRecursion (λ row. one row ≡ other row) rows → filter one rows ≡ filter other rows
filter-alike one other [] all = refl
filter-alike one other (row ∷ rows) all = elim (cases_Bool (other row)) [
  | inl keeps ↦ rw (all.0, keeps) (ap (λ kept. row ∷ kept) (filter-alike one other rows all.1))
  | inr drops ↦ rw (all.0, drops) (filter-alike one other rows all.1)
]

pub filter-same : {X : Type 0} (one other : X → Bool) → ((row : X) → one row ≡ other row) → (rows : List X) →
    filter one rows ≡ filter other rows
filter-same one other same [] = refl
filter-same one other same (row ∷ rows) = elim (cases_Bool (other row)) [
  | inl keeps ↦ rw (same row, keeps) (ap (λ kept. row ∷ kept) (filter-same one other same rows))
  | inr drops ↦ rw (same row, drops) (filter-same one other same rows)
]

pub filter-all : {X : Type 0} (test : X → Bool) → ((row : X) → test row ≡ true) → (rows : List X) →
    filter test rows ≡ rows
filter-all test keeps [] = refl
filter-all test keeps (row ∷ rows) = rw (keeps row) (ap (λ kept. row ∷ kept) (filter-all test keeps rows))

-- two filters are one
pub filter-both : {X : Type 0} (first second both : X → Bool) → ((row : X) → both row ≡ (first row && second row)) →
    (rows : List X) → filter second (filter first rows) ≡ filter both rows
filter-both first second both same [] = refl
filter-both first second both same (row ∷ rows) =
    let rest = filter-both first second both same rows in
    elim (cases_Bool (first row)) [
      | inl one ↦ elim (cases_Bool (second row)) [
        | inl other ↦ rw (same row) (rw one (rw other (ap (λ kept. row ∷ kept) rest)))
        | inr other ↦ rw (same row) (rw one (rw other rest))
      ]
      | inr one ↦ rw (same row) (rw one rest)
    ]

-- a filter before another that only sees some rows
pub filter-swapped : {X : Type 0} (test keep keep' : X → Bool) →
    ((row : X) → test row ≡ true → keep row ≡ keep' row) → (rows : List X) →
    filter test (filter keep rows) ≡ filter keep' (filter test rows)
filter-swapped test keep keep' same [] = refl
filter-swapped test keep keep' same (row ∷ rows) =
    let rest = filter-swapped test keep keep' same rows in
    elim (cases_Bool (test row)) [
      | inl here ↦ elim (cases_Bool (keep' row)) [
        | inl keeps ↦ rw here (rw (same row here, keeps) (rw here (ap (λ kept. row ∷ kept) rest)))
        | inr drops ↦ rw here (rw (same row here, drops) rest)
      ]
      | inr there ↦ elim (cases_Bool (keep row)) [
        | inl keeps ↦ rw keeps (rw there rest)
        | inr drops ↦ rw drops (rw there rest)
      ]
    ]

-- nothing is found that was not kept
pub find-dropped : {X : Type 0} (test keep : X → Bool) → ((row : X) → test row ≡ true → keep row ≡ false) →
    (rows : List X) → find test (filter keep rows) ≡ None
find-dropped test keep drops [] = refl
find-dropped test keep drops (row ∷ rows) =
    let rest = find-dropped test keep drops rows in
    elim (cases_Bool (test row)) [
      | inl here ↦ rw (drops row here) rest
      | inr there ↦ elim (cases_Bool (keep row)) [
        | inl kept ↦ rw kept (rw there rest)
        | inr gone ↦ rw gone rest
      ]
    ]

-- ---- numbers in a list
pub among-more : (one other : List ℕ) (number : ℕ) →
    is_among (one ++ other) number ≡ (is_among one number || is_among other number)
among-more [] other number = refl
among-more (first ∷ one) other number = elim (cases_Bool (first == number)) [
  | inl here ↦ rw here refl
  | inr there ↦ rw there (among-more one other number)
]

not-or : (one other : Bool) → not (one || other) ≡ (not one && not other)
not-or true other = refl
not-or false other = refl

pub stays-more : (one other : List ℕ) (number : ℕ) →
    stays (one ++ other) number ≡ (stays one number && stays other number)
stays-more one other number =
    ap not (among-more one other number) ∙ not-or (is_among one number) (is_among other number)

equal-swapped : (a b : ℕ) → (a == b) ≡ (b == a)
equal-swapped a b = elim (cases_Bool (b == a)) [
  | inl same ↦ rw same (eq-eqb a b (sym (eqb-true b a same)))
  | inr apart ↦ rw apart (false_from_ne_true (a == b) (λ same.
      true≢false (sym (eq-eqb b a (sym (eqb-true a b same))) ∙ apart)))
]

or-nothing : (b : Bool) → (b || false) ≡ b
or-nothing true = refl
or-nothing false = refl

-- one number alone
pub stays-one : (text number : ℕ) → stays (text ∷ []) number ≡ not (number == text)
stays-one text number = ap not (or-nothing (text == number) ∙ equal-swapped text number)
