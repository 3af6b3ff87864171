-- Lists of rows that a mask goes over, before a change and after it, or after it alone.
use Rattle.std.proofs.Common.{◌≡◌, Bool, List, [], ◌∷◌, ◌++◌, refl, ap, ap₂, ◌∙◌, inl, inr}
use Rattle.std.specs.Prelude.{map}
use Rattle.std.specs.List.{filter, list_any}
use Rattle.std.proofs.Common.{◌||◌}
use Rattle.std.proofs.lemmas.Bool.{cases_Bool}
use Rattle.kom_laws.proofs.masking.Rows.{filter-changed}

-- rows that a change and a mask go over, each row by itself
pub map-masked : {X : Type 0} (mask change : X → X) → ((row : X) → mask (change (mask row)) ≡ mask (change row)) →
    (rows : List X) → map mask (map change (map mask rows)) ≡ map mask (map change rows)
map-masked mask change same [] = refl
map-masked {X} mask change same (row ∷ rows) =
    ap₂ (λ (first : X) (others : List X). first ∷ others) (same row) (map-masked mask change same rows)

pub map-twice : {X : Type 0} (mask : X → X) → ((row : X) → mask (mask row) ≡ mask row) →
    (rows : List X) → map mask (map mask rows) ≡ map mask rows
map-twice mask same [] = refl
map-twice {X} mask same (row ∷ rows) =
    ap₂ (λ (first : X) (others : List X). first ∷ others) (same row) (map-twice mask same rows)

pub map-appended : {X : Type 0} (mask : X → X) → ((row : X) → mask (mask row) ≡ mask row) →
    (rows : List X) (given : X) →
    map mask (map mask rows ++ given ∷ []) ≡ map mask (rows ++ given ∷ [])
map-appended mask same [] given = refl
map-appended {X} mask same (row ∷ rows) given =
    ap₂ (λ (first : X) (others : List X). first ∷ others) (same row) (map-appended mask same rows given)

pub filter-twice : {X : Type 0} (keep : X → Bool) (rows : List X) → filter keep (filter keep rows) ≡ filter keep rows
filter-twice keep [] = refl
filter-twice keep (row ∷ rows) = elim (cases_Bool (keep row)) [
  | inl stays ↦ rw stays (rw stays (ap (λ rows. row ∷ rows) (filter-twice keep rows)))
  | inr goes ↦ rw goes (filter-twice keep rows)
]

pub filter-appended : {X : Type 0} (keep : X → Bool) (rows : List X) (given : X) →
    filter keep (filter keep rows ++ given ∷ []) ≡ filter keep (rows ++ given ∷ [])
filter-appended keep [] given = refl
filter-appended keep (row ∷ rows) given = elim (cases_Bool (keep row)) [
  | inl stays ↦ rw stays (rw stays (ap (λ rows. row ∷ rows) (filter-appended keep rows given)))
  | inr goes ↦ rw goes (filter-appended keep rows given)
]

-- rows of which some go by a test
pub filter-filtered : {X : Type 0} (keep test : X → Bool) (rows : List X) →
    filter keep (filter test (filter keep rows)) ≡ filter keep (filter test rows)
filter-filtered keep test [] = refl
filter-filtered keep test (row ∷ rows) = elim (cases_Bool (keep row)) [
  | inl stays ↦ elim (cases_Bool (test row)) [
    | inl passes ↦ rw stays (rw passes (rw stays (ap (λ rows. row ∷ rows) (filter-filtered keep test rows))))
    | inr fails ↦ rw stays (rw fails (filter-filtered keep test rows))
  ]
  | inr goes ↦ elim (cases_Bool (test row)) [
    | inl passes ↦ rw goes (rw passes (rw goes (filter-filtered keep test rows)))
    | inr fails ↦ rw goes (rw fails (filter-filtered keep test rows))
  ]
]

pub map-filtered : {X : Type 0} (mask : X → X) (test : X → Bool) → ((row : X) → test (mask row) ≡ test row) →
    ((row : X) → mask (mask row) ≡ mask row) → (rows : List X) →
    map mask (filter test (map mask rows)) ≡ map mask (filter test rows)
map-filtered mask test tests twice rows =
    ap (map mask) (filter-changed test mask tests rows) ∙ map-twice mask twice (filter test rows)

-- whether any of rows that are masked passes a test
pub any-masked : {X : Type 0} (test : X → Bool) (mask : X → X) → ((row : X) → test (mask row) ≡ test row) →
    (rows : List X) → list_any test (map mask rows) ≡ list_any test rows
any-masked test mask tests [] = refl
any-masked test mask tests (row ∷ rows) = ap₂ (λ first others. first || others) (tests row)
    (any-masked test mask tests rows)
