-- What is told of rows that are the same but for what a mask takes from one that it hides.
use Rattle.std.proofs.Common.{◌≡◌, Bool, true, List, [], ◌∷◌, Option, Some, None, refl, sym, ap, ap₂, ◌∙◌, inl, inr}
use Rattle.std.proofs.Common.{cond, ◌++◌}
use Rattle.std.proofs.Common.{ℕ, zero, suc, take, drop}
use Rattle.std.proofs.lemmas.List.{length-map, reverse-append}
use Rattle.std.specs.Prelude.{map, option_map, reverse, length}
use Rattle.std.specs.List.{filter, find, filter_map, cons_option, AllByRecursion}
use Rattle.std.proofs.lemmas.Bool.{cases_Bool}
use Rattle.kom_laws.proofs.masking.Rows.{told}

-- what is told of all rows, over rows that are changed
pub map-told : {X Y : Type 0} (change : X → X) (tell tell' : X → Y) → ((row : X) → tell (change row) ≡ tell' row) →
    (rows : List X) → map tell (map change rows) ≡ map tell' rows
map-told change tell tell' tells [] = refl
map-told {X} {Y} change tell tell' tells (row ∷ rows) =
    ap₂ (λ (first : Y) (others : List Y). first ∷ others) (tells row) (map-told change tell tell' tells rows)

-- the row that a test finds, over rows of which the change leaves that
pub find-unchanged : {X : Type 0} (test : X → Bool) (change : X → X) → ((row : X) → test (change row) ≡ test row) →
    ((row : X) → test row ≡ true → change row ≡ row) → (rows : List X) → find test (map change rows) ≡ find test rows
find-unchanged test change tests keeps [] = refl
find-unchanged test change tests keeps (row ∷ rows) = elim (cases_Bool (test row)) [
  | inl here ↦ rw (tests row, here) (ap (λ row. Some row) (keeps row here))
  | inr there ↦ rw (tests row, there) (find-unchanged test change tests keeps rows)
]

-- what is told of a row that may be there, of each of a list, and of those that a test keeps, in another way
pub told-tells : {X Y : Type 0} (none : Y) (tell tell' : X → Y) → ((row : X) → tell row ≡ tell' row) →
    (found : Option X) → told none tell found ≡ told none tell' found
told-tells none tell tell' tells None = refl
told-tells none tell tell' tells (Some row) = tells row

pub map-tells : {X Y : Type 0} (tell tell' : X → Y) → ((row : X) → tell row ≡ tell' row) → (rows : List X) →
    map tell rows ≡ map tell' rows
map-tells tell tell' tells [] = refl
map-tells {X} {Y} tell tell' tells (row ∷ rows) =
    ap₂ (λ (first : Y) (others : List Y). first ∷ others) (tells row) (map-tells tell tell' tells rows)

pub filter-tests : {X : Type 0} (test test' : X → Bool) → ((row : X) → test row ≡ test' row) → (rows : List X) →
    filter test rows ≡ filter test' rows
filter-tests test test' tests [] = refl
filter-tests test test' tests (row ∷ rows) =
    ap₂ (λ keeps kept. cond keeps (row ∷ kept) kept) (tests row) (filter-tests test test' tests rows)

pub filter_map-tells : {X Y : Type 0} (tell tell' : X → Option Y) → ((row : X) → tell row ≡ tell' row) →
    (rows : List X) → filter_map tell rows ≡ filter_map tell' rows
filter_map-tells tell tell' tells [] = refl
filter_map-tells {X} {Y} tell tell' tells (row ∷ rows) =
    ap₂ (λ (first : Option Y) (others : List Y). cons_option first others) (tells row)
    (filter_map-tells tell tell' tells rows)

module _ {X Y : Type 0} (blank : X → X) (tell : X → Y) (tells : (row : X) → tell (blank row) ≡ tell row) where
  told-once : (none : Y) (found : Option X) → told none tell (option_map blank found) ≡ told none tell found
  told-once none None = refl
  told-once none (Some row) = tells row

  -- what is told of a row, and of all rows
  pub told-alike : (none : Y) (one other : Option X) → option_map blank one ≡ option_map blank other →
      told none tell one ≡ told none tell other
  told-alike none one other same =
      sym (told-once none one) ∙ ap (told none tell) same ∙ told-once none other

  pub map-alike : (ones others : List X) → map blank ones ≡ map blank others → map tell ones ≡ map tell others
  map-alike ones others same = sym (map-told blank tell tell tells ones) ∙ ap (map tell) same
      ∙ map-told blank tell tell tells others

-- the rows that a test keeps, and the one that it finds, by what it tells of a row
module _ {X : Type 0} (blank : X → X) (test test' : X → Bool) (tests : (row : X) → test (blank row) ≡ test' row) where
  filter-once : (rows : List X) → filter test (map blank rows) ≡ map blank (filter test' rows)
  filter-once [] = refl
  filter-once (row ∷ rows) = elim (cases_Bool (test' row)) [
    | inl here ↦ rw (tests row) (rw here (ap (λ kept. blank row ∷ kept) (filter-once rows)))
    | inr there ↦ rw (tests row) (rw there (filter-once rows))
  ]

  find-once : (rows : List X) → find test (map blank rows) ≡ option_map blank (find test' rows)
  find-once [] = refl
  find-once (row ∷ rows) = elim (cases_Bool (test' row)) [
    | inl here ↦ rw (tests row) (rw here refl)
    | inr there ↦ rw (tests row) (rw there (find-once rows))
  ]

module _ {X : Type 0} (blank : X → X) (test : X → Bool) (tests : (row : X) → test (blank row) ≡ test row) where
  pub filter-alike : (ones others : List X) → map blank ones ≡ map blank others →
      map blank (filter test ones) ≡ map blank (filter test others)
  filter-alike ones others same = sym (filter-once blank test test tests ones) ∙ ap (filter test) same
      ∙ filter-once blank test test tests others

  pub find-alike : (ones others : List X) → map blank ones ≡ map blank others →
      option_map blank (find test ones) ≡ option_map blank (find test others)
  find-alike ones others same = sym (find-once blank test test tests ones) ∙ ap (find test) same
      ∙ find-once blank test test tests others

-- what is replied of a row, by what is shown of it
replied-once : {X Y Z : Type 0} (none : Z) (tell : Y → Z) (shown : X → Y) (found : Option X) →
    told none (λ row. tell (shown row)) found ≡ told none tell (option_map shown found)
replied-once none tell shown None = refl
replied-once none tell shown (Some row) = refl

pub replied-same : {X Y Z : Type 0} (none : Z) (tell : Y → Z) (shown shown' : X → Y) (one other : Option X) →
    option_map shown one ≡ option_map shown' other →
    told none (λ row. tell (shown row)) one ≡ told none (λ row. tell (shown' row)) other
replied-same none tell shown shown' one other same =
    replied-once none tell shown one ∙ ap (told none tell) same ∙ sym (replied-once none tell shown' other)

-- what is told of the row that a test finds, in another way that tells the same of a row that passes
pub told-where : {X Y : Type 0} (test : X → Bool) (none : Y) (tell tell' : X → Y) →
    ((row : X) → test row ≡ true → tell row ≡ tell' row) → (rows : List X) →
    told none tell (find test rows) ≡ told none tell' (find test rows)
told-where test none tell tell' tells [] = refl
told-where test none tell tell' tells (row ∷ rows) = elim (cases_Bool (test row)) [
  | inl here ↦ rw here (tells row here)
  | inr there ↦ rw there (told-where test none tell tell' tells rows)
]

-- rows that are alike are as many, and are so in reverse
pub length-alike : {X : Type 0} (blank : X → X) (ones others : List X) → map blank ones ≡ map blank others →
    length ones ≡ length others
length-alike blank ones others same =
    sym (length-map ones blank) ∙ ap length same ∙ length-map others blank

appended : {X Y : Type 0} (tell : X → Y) (rows : List X) (last : X) →
    map tell (rows ++ last ∷ []) ≡ map tell rows ++ tell last ∷ []
appended tell [] last = refl
appended {X} {Y} tell (row ∷ rows) last = ap (λ (others : List Y). tell row ∷ others) (appended tell rows last)

map-reversed : {X Y : Type 0} (tell : X → Y) (rows : List X) → map tell (reverse rows) ≡ reverse (map tell rows)
map-reversed tell [] = refl
map-reversed {X} {Y} tell (row ∷ rows) = ap (map tell) (reverse-append (row ∷ []) rows)
    ∙ appended tell (reverse rows) row
    ∙ ap (λ (others : List Y). others ++ tell row ∷ []) (map-reversed tell rows)
    ∙ sym (reverse-append (tell row ∷ []) (map tell rows))

pub reverse-alike : {X : Type 0} (blank : X → X) (ones others : List X) → map blank ones ≡ map blank others →
    map blank (reverse ones) ≡ map blank (reverse others)
reverse-alike blank ones others same =
    map-reversed blank ones ∙ ap reverse same ∙ sym (map-reversed blank others)

-- what holds of all rows that a test keeps, and of a part of rows
pub all-kept : {X : Type 0} (P : X → Type 0) (test : X → Bool) → ((row : X) → test row ≡ true → P row) →
    (rows : List X) → AllByRecursion P (filter test rows)
all-kept P test holds [] = tt
all-kept P test holds (row ∷ rows) = elim (cases_Bool (test row)) [
  | inl here ↦ rw here (holds row here, all-kept P test holds rows)
  | inr there ↦ rw there (all-kept P test holds rows)
]

pub all-dropped : {X : Type 0} (P : X → Type 0) (count : ℕ) (rows : List X) → AllByRecursion P rows →
    AllByRecursion P (drop count rows)
all-dropped P zero rows all = all
all-dropped P (suc count) [] all = tt
all-dropped P (suc count) (row ∷ rows) all = all-dropped P count rows all.1

pub all-taken : {X : Type 0} (P : X → Type 0) (count : ℕ) (rows : List X) → AllByRecursion P rows →
    AllByRecursion P (take count rows)
all-taken P zero rows all = tt
all-taken P (suc count) [] all = tt
all-taken P (suc count) (row ∷ rows) all = (all.0, all-taken P count rows all.1)
