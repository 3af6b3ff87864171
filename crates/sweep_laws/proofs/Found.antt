-- What is found among rows, and what holds of all of them.
use Rattle.std.proofs.Common.{◌≡◌, ℕ, ◌==◌, Bool, true, false, List, [], ◌∷◌, Option, Some, None, refl, sym, ap, subst}
use Rattle.std.proofs.Common.{◌∙◌, inl, inr, ◌⊎◌, eq-eqb, true≢false}
use Rattle.std.specs.Prelude.{is_some, option_map}
use Rattle.std.specs.List.{AllByRecursion, find, list_any}
use Rattle.std.proofs.lemmas.Bool.{cases_Bool, or_right}
use Rattle.row_table.specs.Tables.{row_of}
use Rattle.kom_laws.proofs.masking.Rows.{told}

-- a row was found, or none
pub cases_Option : {X : Type 0} (found : Option X) → (found ≡ None) ⊎ ((row : X) × (found ≡ Some row))
cases_Option None = inl refl
cases_Option (Some row) = inr (row, refl)

pub all-weaker : {X : Type 0} (P Q : X → Type 0) → ((row : X) → P row → Q row) → (rows : List X) →
    AllByRecursion P rows → AllByRecursion Q rows
all-weaker P Q from [] all = tt
all-weaker P Q from (row ∷ rows) all = (from row all.0, all-weaker P Q from rows all.1)

pub all-both : {X : Type 0} (P Q R : X → Type 0) → ((row : X) → P row → Q row → R row) → (rows : List X) →
    AllByRecursion P rows → AllByRecursion Q rows → AllByRecursion R rows
all-both P Q R from [] one other = tt
all-both P Q R from (row ∷ rows) one other = (from row one.0 other.0, all-both P Q R from rows one.1 other.1)

-- what is found is one of all rows, and passes the test
pub found-holds : {X : Type 0} (P : X → Type 0) (test : X → Bool) (rows : List X) → AllByRecursion P rows → (row : X) →
    find test rows ≡ Some row → P row × (test row ≡ true)
found-holds P test [] all row is = cc
found-holds P test (first ∷ rows) all row is = elim (cases_Bool (test first)) [
  | inl here ↦
      let same : Some first ≡ Some row = rw here at is in
      let at : first ≡ row = cc same in
      subst (λ one. P one × (test one ≡ true)) at (all.0, here)
  | inr there ↦ found-holds P test rows all.1 row (rw there at is)
]

-- what passes by a row that was found, was found
pub found-says : {X : Type 0} (says : X → Bool) (found : Option X) → told false says found ≡ true →
    (row : X) × (found ≡ Some row) × (says row ≡ true)
found-says says None is = absurd (true≢false (sym is))
found-says says (Some row) is = (row, refl, is)

-- where one of the rows passes, one was found; and one that was found is one of them
pub any-passes : {X : Type 0} (P : X → Type 0) (test : X → Bool) (rows : List X) → AllByRecursion P rows →
    list_any test rows ≡ true → (row : X) × P row × (test row ≡ true)
any-passes P test [] all is = absurd (true≢false (sym is))
any-passes P test (row ∷ rows) all is = elim (cases_Bool (test row)) [
  | inl here ↦ (row, all.0, here)
  | inr there ↦ any-passes P test rows all.1 (rw there at is)
]

pub found-any : {X : Type 0} (one test : X → Bool) (rows : List X) (row : X) → find one rows ≡ Some row →
    test row ≡ true → list_any test rows ≡ true
found-any one test [] row is passes = cc
found-any one test (first ∷ rows) row is passes = elim (cases_Bool (one first)) [
  | inl here ↦
      let same : Some first ≡ Some row = rw here at is in
      let at : first ≡ row = cc same in
      let holds : test first ≡ true = ap test at ∙ passes in
      rw holds refl
  | inr there ↦ or_right (test first) (list_any test rows) (found-any one test rows row (rw there at is) passes)
]

-- what is told of a row is told of what is taken of it
pub told-map : {X Y Z : Type 0} (none : Z) (take : X → Y) (says : Y → Z) (found : Option X) →
    told none says (option_map take found) ≡ told none (λ row. says (take row)) found
told-map none take says None = refl
told-map none take says (Some row) = refl

pub map-map : {X Y Z : Type 0} (take : X → Y) (more : Y → Z) (found : Option X) →
    option_map more (option_map take found) ≡ option_map (λ row. more (take row)) found
map-map take more None = refl
map-map take more (Some row) = refl

pub some-map : {X Y : Type 0} (take : X → Y) (found : Option X) → is_some (option_map take found) ≡ is_some found
some-map take None = refl
some-map take (Some row) = refl

-- the same is told of all rows
pub told-alike : {X Y : Type 0} (none : Y) (one other : X → Y) → ((row : X) → one row ≡ other row) →
    (found : Option X) → told none one found ≡ told none other found
told-alike none one other same None = refl
told-alike none one other same (Some row) = same row

-- two tests that agree on all rows find the same
pub find-alike : {X : Type 0} (one other : X → Bool) (rows : List X) →
    AllByRecursion (λ row. one row ≡ other row) rows → find one rows ≡ find other rows
find-alike one other [] all = refl
find-alike one other (row ∷ rows) all = rw (all.0) (rw (find-alike one other rows all.1) refl)

-- each row is found by its number
module _ {R : Type 0} (number_of : R → ℕ) where
  found-later : (first : R) (rows : List R) (row : R) → is_some (row_of number_of (number_of row) rows) ≡ true →
      is_some (row_of number_of (number_of row) (first ∷ rows)) ≡ true
  found-later first rows row is = elim (cases_Bool (number_of first == number_of row)) [
    | inl here ↦ rw here refl
    | inr there ↦ rw there is
  ]

  pub all-found : (rows : List R) → AllByRecursion (λ row. is_some (row_of number_of (number_of row) rows) ≡ true) rows
  all-found [] = tt
  all-found (row ∷ rows) = (
    rw (eq-eqb (number_of row) (number_of row) refl) refl,
    all-weaker (λ one. is_some (row_of number_of (number_of one) rows) ≡ true)
        (λ one. is_some (row_of number_of (number_of one) (row ∷ rows)) ≡ true) (found-later row rows) rows
        (all-found rows),
  )
