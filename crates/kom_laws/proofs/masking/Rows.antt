-- What is found, and what is kept, of rows that are changed, or thinned out, where a test cannot tell.
use Rattle.std.proofs.Common.{◌≡◌, Bool, true, false, cond, List, [], ◌∷◌, Option, Some, None, refl, ap, inl, inr, ◌∙◌}
use Rattle.std.specs.Prelude.{map}
use Rattle.std.specs.List.{filter, find, fold}
use Rattle.std.proofs.lemmas.Bool.{cases_Bool}
use Rattle.std.proofs.lemmas.List.Folds.{fold-map, fold_along}

-- what is told of a row that may be there
abbrev pub told : {X Y : Type 0} → Y → (X → Y) → Option X → Y
told none tell found = elim found [ None ↦ none | Some row ↦ tell row ]

-- a change, where what is told of a row stays the same
pub same-changed : {X Y : Type 0} (tell : X → Y) (changes : Bool) (changed row : X) → tell changed ≡ tell row →
    tell (cond changes changed row) ≡ tell row
same-changed tell true changed row same = same
same-changed tell false changed row same = refl

-- what is told of the row that a test finds, over rows that are changed
pub told-changed : {X Y : Type 0} (test : X → Bool) (change : X → X) (none : Y) (tell tell' : X → Y) →
    ((row : X) → test (change row) ≡ test row) → ((row : X) → test row ≡ true → tell (change row) ≡ tell' row) →
    (rows : List X) → told none tell (find test (map change rows)) ≡ told none tell' (find test rows)
told-changed test change none tell tell' tests tells [] = refl
told-changed test change none tell tell' tests tells (row ∷ rows) =
    let rest = told-changed test change none tell tell' tests tells rows in
    elim (cases_Bool (test row)) [
      | inl here ↦ rw (tests row, here) (tells row here)
      | inr there ↦ rw (tests row, there) rest
    ]

-- what is told of the rows that a test keeps, over rows that are changed
pub map-changed : {X Y : Type 0} (test : X → Bool) (change : X → X) (tell tell' : X → Y) →
    ((row : X) → test (change row) ≡ test row) → ((row : X) → test row ≡ true → tell (change row) ≡ tell' row) →
    (rows : List X) → map tell (filter test (map change rows)) ≡ map tell' (filter test rows)
map-changed test change tell tell' tests tells [] = refl
map-changed test change tell tell' tests tells (row ∷ rows) =
    let rest = map-changed test change tell tell' tests tells rows in
    elim (cases_Bool (test row)) [
      | inl here ↦ rw (tests row, here) (rw (tells row here) (ap (λ others. tell' row ∷ others) rest))
      | inr there ↦ rw (tests row, there) rest
    ]

-- the rows that a test keeps, over rows that are changed
pub filter-changed : {X : Type 0} (test : X → Bool) (change : X → X) → ((row : X) → test (change row) ≡ test row) →
    (rows : List X) → filter test (map change rows) ≡ map change (filter test rows)
filter-changed test change tests [] = refl
filter-changed test change tests (row ∷ rows) =
    let rest = filter-changed test change tests rows in
    elim (cases_Bool (test row)) [
      | inl here ↦ rw (tests row, here) (ap (λ kept. change row ∷ kept) rest)
      | inr there ↦ rw (tests row, there) rest
    ]

-- the rows that a test keeps, where only others are taken out
pub filter-thinned : {X : Type 0} (test keep : X → Bool) → ((row : X) → test row ≡ true → keep row ≡ true) →
    (rows : List X) → filter test (filter keep rows) ≡ filter test rows
filter-thinned test keep keeps [] = refl
filter-thinned test keep keeps (row ∷ rows) =
    let rest = filter-thinned test keep keeps rows in
    elim (cases_Bool (test row)) [
      | inl here ↦ rw (keeps row here) (rw here (ap (λ kept. row ∷ kept) rest))
      | inr there ↦ elim (cases_Bool (keep row)) [
        | inl kept ↦ rw kept (rw there rest)
        | inr gone ↦ rw (gone, there) rest
      ]
    ]

-- the row that a test finds, where only others are taken out
pub find-thinned : {X : Type 0} (test keep : X → Bool) → ((row : X) → test row ≡ true → keep row ≡ true) →
    (rows : List X) → find test (filter keep rows) ≡ find test rows
find-thinned test keep keeps [] = refl
find-thinned test keep keeps (row ∷ rows) =
    let rest = find-thinned test keep keeps rows in
    elim (cases_Bool (test row)) [
      | inl here ↦ rw (keeps row here) (rw here refl)
      | inr there ↦ elim (cases_Bool (keep row)) [
        | inl kept ↦ rw kept (rw there rest)
        | inr gone ↦ rw (gone, there) rest
      ]
    ]

-- rows that are put into their places one by one, over rows that are changed
pub fold-changed : {X : Type 0} (put : X → List X → List X) (change : X → X) →
    ((row : X) (rows : List X) → put (change row) (map change rows) ≡ map change (put row rows)) → (rows : List X) →
    fold (λ sorted row. put row sorted) [] (map change rows) ≡ map change (fold (λ sorted row. put row sorted) [] rows)
fold-changed {X} put change puts rows =
    fold-map (λ sorted row. put row sorted) change [] rows
    ∙ fold_along (λ sorted row. put (change row) sorted) (λ sorted row. put row sorted)
    (λ (changed sorted : List X). changed ≡ map change sorted)
    (λ changed sorted row same. ap (put (change row)) same ∙ puts row sorted) [] [] rows refl
