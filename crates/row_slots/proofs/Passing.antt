-- Rows that pass a test: which is found, and how many there are, by their places in slots and in other lists.
use Rattle.std.proofs.Common.{◌≡◌, ℕ, ◌<◌, ◌≤◌, Bool, true, false, cond, not, ◌&&◌, List, [], ◌∷◌, ◌++◌, length, get_or}
use Rattle.std.proofs.Common.{slice_get, map, filter, find, Option, Some, None, option_map, refl, sym, ◌∙◌, ap, arith}
use Rattle.std.specs.List.{AllByRecursion, IsDistinct}
use Rattle.std.specs.Option.{option_flatten, option_map_or}
use Rattle.std.proofs.lemmas.Bool.{false≢true}
use Rattle.std.proofs.lemmas.List.{length-append}
use Rattle.std.proofs.lemmas.List.Elements.{filter-append}
use Rattle.std.proofs.lemmas.Option.{none-some, same_Some, slice_get-map, slice_get_past, slice_get_read}
use Rattle.row_slots.specs.Slots.{rows_in, places_of}
use Rattle.row_slots.proofs.Places.{row_at, rows-places_of}

-- ---- what is read at a place

-- what is read of a list that is another
pub read_of : (xs ys : List ℕ) (place x : ℕ) → ys ≡ xs → place < length ys → x ≡ get_or ys place x →
    slice_get xs place ≡ Some x
read_of xs ys place x same within is =
    ap (λ l. slice_get l place) (sym same) ∙ slice_get_read ys (length ys) place x refl within is

pub none_of : (xs ys : List ℕ) (place : ℕ) → ys ≡ xs → length ys ≤ place → slice_get xs place ≡ None
none_of xs ys place same past = ap (λ l. slice_get l place) (sym same) ∙ slice_get_past ys place past

-- ---- what is found

find-map : {X Y : Type 0} (test : Y → Bool) (f : X → Y) (xs : List X) →
    find test (map f xs) ≡ option_map f (find (λ x. test (f x)) xs)
find-map test f [] = refl
find-map test f (x ∷ xs) =
    elim (test (f x)) as
    (λ b. cond b (Some (f x)) (find test (map f xs)) ≡ option_map f (cond b (Some x) (find (λ y. test (f y)) xs))) [
      | true ↦ refl
      | false ↦ find-map test f xs
    ]

find_passes : {X : Type 0} (test : X → Bool) (xs : List X) (x : X) → find test xs ≡ Some x → test x ≡ true
find_passes test [] x there = absurd (none-some x there)
find_passes test (first ∷ xs) x there =
    elim (test first) as (λ b. (test first ≡ b) → cond b (Some first) (find test xs) ≡ Some x → test x ≡ true) [
      | true ↦ λ passes there. ap test (sym (same_Some first x there)) ∙ passes
      | false ↦ λ fails there. find_passes test xs x there
    ] refl there

module _ {R : Type 0} where
  flatten-Some : (o : Option R) → option_flatten (option_map Some o) ≡ o
  flatten-Some None = refl
  flatten-Some (Some x) = refl

  -- the row at the place that a place among others names
  nth-places_of : (test : R → Bool) (slots : List (Option R)) (place : ℕ) →
      slice_get (filter test (rows_in slots)) place
      ≡ option_flatten (option_map (row_at slots) (slice_get (places_of test slots) place))
  nth-places_of test slots place =
      sym (ap option_flatten
      (sym (slice_get-map (row_at slots) (places_of test slots) place)
      ∙ ap (λ rows. slice_get rows place) (rows-places_of test slots)
      ∙ slice_get-map Some (filter test (rows_in slots)) place)
      ∙ flatten-Some (slice_get (filter test (rows_in slots)) place))

  pub nth : (test : R → Bool) (slots : List (Option R)) (places : List ℕ) (place : ℕ) → places ≡ places_of test slots →
      slice_get (filter test (rows_in slots)) place
      ≡ option_flatten (option_map (row_at slots) (slice_get places place))
  nth test slots places place are =
      nth-places_of test slots place
      ∙ sym (ap (λ l. option_flatten (option_map (row_at slots) (slice_get l place))) are)

  -- ---- which row is found

  find-Some : (test : R → Bool) (rows : List R) →
      option_flatten (find (λ row. option_map_or test row false) (map Some rows)) ≡ find test rows
  find-Some test [] = refl
  find-Some test (row ∷ rows) =
      elim (test row) as
      (λ b. option_flatten (cond b (Some (Some row)) (find (λ o. option_map_or test o false) (map Some rows)))
      ≡ cond b (Some row) (find test rows)) [
        | true ↦ refl
        | false ↦ find-Some test rows
      ]

  -- the first that passes among those that pass another test
  find-filter : (test other both : R → Bool) → ((row : R) → both row ≡ (other row && test row)) →
      (rows : List R) → find test (filter other rows) ≡ find both rows
  find-filter test other both same [] = refl
  find-filter test other both same (row ∷ rows) =
      elim (other row) as
      (λ b. (other row ≡ b) → find test (cond b (row ∷ filter other rows) (filter other rows))
      ≡ cond (both row) (Some row) (find both rows)) [
        | true ↦ λ passes.
            let is : both row ≡ test row = same row ∙ ap (λ b. b && test row) passes in
            rw is (ap (λ rest. cond (test row) (Some row) rest) (find-filter test other both same rows))
        | false ↦ λ fails.
            let is : both row ≡ false = same row ∙ ap (λ b. b && test row) fails in
            rw is (find-filter test other both same rows)
      ] refl

  there_is : (test : R → Bool) (o : Option R) → option_map_or test o false ≡ true → (row : R) × (o ≡ Some row)
  there_is test None passes = absurd (false≢true passes)
  there_is test (Some row) passes = (row, refl)

  -- whether a row that passes is at a place
  abbrev pub passes_at : (R → Bool) → List (Option R) → ℕ → Bool
  passes_at test slots place = option_map_or test (row_at slots place) false

  module _ (test other both : R → Bool) (same : (row : R) → both row ≡ (other row && test row))
      (slots : List (Option R)) (places : List ℕ) (are : places ≡ places_of other slots) where
    -- the row by what is found of its place
    pub found : (place : Option ℕ) → place ≡ find (passes_at test slots) places →
        find both (rows_in slots) ≡ option_flatten (option_map (row_at slots) place)
    found place is =
        let here : place ≡ find (passes_at test slots) (places_of other slots) =
        is ∙ ap (find (passes_at test slots)) are in
        sym (ap (λ o. option_flatten (option_map (row_at slots) o)) here
        ∙ ap option_flatten
        (sym (find-map (λ o. option_map_or test o false) (row_at slots) (places_of other slots))
        ∙ ap (find (λ o. option_map_or test o false)) (rows-places_of other slots))
        ∙ find-Some test (filter other (rows_in slots))
        ∙ find-filter test other both same (rows_in slots))

    -- the row at a place that was found
    pub found_row : (place : ℕ) → Some place ≡ find (passes_at test slots) places →
        (row : R) × (row_at slots place ≡ Some row) × (find both (rows_in slots) ≡ Some row) × (both row ≡ true)
    found_row place is =
        let there = there_is test (row_at slots place) (find_passes (passes_at test slots) places place (sym is)) in
        let row = found (Some place) is ∙ there.1 in
        (there.0, there.1, row, find_passes both (rows_in slots) there.0 row)

  -- ---- how many rows pass

  pub none_pass : (test : R → Bool) (rows : List R) → find test rows ≡ None → length (filter test rows) ≡ 0
  none_pass test [] none = refl
  none_pass test (row ∷ rows) none =
      elim (test row) as
      (λ b. cond b (Some row) (find test rows) ≡ None →
      length (cond b (row ∷ filter test rows) (filter test rows)) ≡ 0) [
        | true ↦ λ none. absurd (none-some row (sym none))
        | false ↦ λ none. none_pass test rows none
      ] none

  pub all_stay : (test : R → Bool) (rows : List R) → find test rows ≡ None → filter (λ row. not (test row)) rows ≡ rows
  all_stay test [] none = refl
  all_stay test (row ∷ rows) none =
      elim (test row) as
      (λ b. cond b (Some row) (find test rows) ≡ None →
      cond (not b) (row ∷ filter (λ r. not (test r)) rows) (filter (λ r. not (test r)) rows) ≡ row ∷ rows) [
        | true ↦ λ none. absurd (none-some row (sym none))
        | false ↦ λ none. ap (λ rest. row ∷ rest) (all_stay test rows none)
      ] none

  pub fewer_pass : (test other : R → Bool) (rows : List R) →
      length (filter test (filter other rows)) ≤ length (filter test rows)
  fewer_pass test other [] = omega arith
  fewer_pass test other (row ∷ rows) =
      let rest : length (filter test (filter other rows)) ≤ length (filter test rows) = fewer_pass test other rows in
      elim (other row) as
      (λ b. length (filter test (cond b (row ∷ filter other rows) (filter other rows)))
      ≤ length (cond (test row) (row ∷ filter test rows) (filter test rows))) [
        | true ↦
            elim (test row) as
            (λ b. length (cond b (row ∷ filter test (filter other rows)) (filter test (filter other rows)))
            ≤ length (cond b (row ∷ filter test rows) (filter test rows))) [
              | true ↦ omega (arith, rest)
              | false ↦ rest
            ]
        | false ↦
            elim (test row) as
            (λ b. length (filter test (filter other rows))
            ≤ length (cond b (row ∷ filter test rows) (filter test rows))) [
              | true ↦ omega (arith, rest)
              | false ↦ rest
            ]
      ]

  pub one_passes : (test : R → Bool) (rows : List R) (row : R) → length (filter test rows) ≤ 1 →
      (test row ≡ true → length (filter test rows) ≡ 0) → length (filter test (rows ++ row ∷ [])) ≤ 1
  one_passes test rows row few none =
      rw (filter-append test rows (row ∷ []))
      (elim (test row) as (λ b. test row ≡ b → length (filter test rows ++ cond b (row ∷ []) []) ≤ 1) [
        | true ↦ λ passes. omega (arith, length-append (filter test rows) (row ∷ []), none passes)
        | false ↦ λ fails. omega (arith, length-append (filter test rows) [], few)
      ] refl)

  -- ---- no row is like another

  none_at_all : (test : R → Bool) (rows : List R) → length (filter test rows) ≡ 0 →
      AllByRecursion (λ row. test row ≡ false) rows
  none_at_all test [] none = tt
  none_at_all test (row ∷ rows) none =
      elim (test row) as
      (λ b. test row ≡ b → length (cond b (row ∷ filter test rows) (filter test rows)) ≡ 0 →
      AllByRecursion (λ r. test r ≡ false) (row ∷ rows)) [
        | true ↦ λ passes none. absurd (omega (arith, none))
        | false ↦ λ fails none. (fails, none_at_all test rows none)
      ] refl none

  fewer_after : (test : R → Bool) (row : R) (rows : List R) → length (filter test (row ∷ rows)) ≤ 1 →
      length (filter test rows) ≤ 1
  fewer_after test row rows =
      elim (test row) as
      (λ b. length (cond b (row ∷ filter test rows) (filter test rows)) ≤ 1 → length (filter test rows) ≤ 1) [
        | true ↦ λ few. omega (arith, few)
        | false ↦ λ few. few
      ]

  none_after : (test : R → Bool) (row : R) (rows : List R) → test row ≡ true →
      length (filter test (row ∷ rows)) ≤ 1 → length (filter test rows) ≡ 0
  none_after test row rows passes few = let fewer = rw passes at few in omega (arith, fewer)

  pub distinct : (like : R → R → Bool) → ((row : R) → like row row ≡ true) → (rows : List R) →
      ((row : R) → length (filter (like row) rows) ≤ 1) → IsDistinct like rows
  unfolding IsDistinct
  distinct like itself [] few = tt
  distinct like itself (row ∷ rows) few = (
    none_at_all (like row) rows (none_after (like row) row rows (itself row) (few row)),
    distinct like itself rows (λ other. fewer_after (like other) row rows (few other)),
  )
