-- The places of the rows that pass a test: which rows stand there, and what the places and the rows are after a row is
-- added and after a slot is emptied.
use Rattle.std.proofs.Common.{◌≡◌, ℕ, zero, suc, ◌≤◌, Bool, true, false, cond, not, ◌||◌, nat_eq, List, [], ◌∷◌, ◌++◌}
use Rattle.std.proofs.Common.{length, slice_get, map, filter, Option, Some, None, refl, sym, ap, ◌∙◌, arith, add-one}
use Rattle.std.specs.Option.{option_flatten}
use Rattle.std.specs.Set.{remove_key, is_member}
use Rattle.std.proofs.Math.Dec.{eqb-suc-zero, eqb-suc-suc}
use Rattle.std.proofs.lemmas.Bool.{false≢true}
use Rattle.std.proofs.lemmas.List.{length-map, map-append}
use Rattle.std.proofs.lemmas.Option.{none-some, same_Some}
use Rattle.std.proofs.lemmas.Simd.{map-map}
use Rattle.row_slots.specs.Slots.{rows_in, places_from, places_of, empty_slot}

-- ---- the next numbers of a list

next_numbers-without : (place : ℕ) (places : List ℕ) →
    remove_key (nat_eq (suc place)) (map suc places) ≡ map suc (remove_key (nat_eq place) places)
next_numbers-without place [] = refl
next_numbers-without place (first ∷ places) =
    ap (λ b. cond b (map suc places) (suc first ∷ remove_key (nat_eq (suc place)) (map suc places)))
    (eqb-suc-suc place first)
    ∙ elim (nat_eq place first) as
    (λ b. cond b (map suc places) (suc first ∷ remove_key (nat_eq (suc place)) (map suc places))
    ≡ map suc (cond b places (first ∷ remove_key (nat_eq place) places))) [
      | true ↦ refl
      | false ↦ ap (λ rest. suc first ∷ rest) (next_numbers-without place places)
    ]

next_is_member : (place : ℕ) (places : List ℕ) → is_member nat_eq places place ≡ true →
    is_member nat_eq (map suc places) (suc place) ≡ true
next_is_member place [] there = there
next_is_member place (first ∷ places) there =
    ap (λ b. b || is_member nat_eq (map suc places) (suc place)) (eqb-suc-suc place first)
    ∙ or_weaker (nat_eq place first) (is_member nat_eq places place) (is_member nat_eq (map suc places) (suc place))
    (next_is_member place places) there
  where
    or_weaker : (here later next : Bool) → (later ≡ true → next ≡ true) → (here || later) ≡ true → (here || next) ≡ true
    or_weaker true later next weaker there = refl
    or_weaker false later next weaker there = weaker there

member_counts : (places : List ℕ) (place : ℕ) → is_member nat_eq places place ≡ true → 1 ≤ length places
member_counts [] place there = absurd (false≢true there)
member_counts (first ∷ places) place there = omega arith

module _ {R : Type 0} where
  -- the row of a place
  abbrev pub row_at : List (Option R) → ℕ → Option R
  row_at slots place = option_flatten (slice_get slots place)

  module _ (test : R → Bool) where
    -- the places from the next one on are the next ones
    places_from-next : (place : ℕ) (slots : List (Option R)) →
        places_from test (suc place) slots ≡ map suc (places_from test place slots)
    places_from-next place [] = refl
    places_from-next place (None ∷ slots) =
        rw (add-one, add-one) (places_from-next (suc place) slots)
    places_from-next place (Some row ∷ slots) =
        rw (add-one, add-one) (elim (test row) as
        (λ b. cond b (suc place ∷ places_from test (suc (suc place)) slots) (places_from test (suc (suc place)) slots)
        ≡ map suc (cond b (place ∷ places_from test (suc place) slots) (places_from test (suc place) slots))) [
          | true ↦ ap (λ rest. suc place ∷ rest) (places_from-next (suc place) slots)
          | false ↦ places_from-next (suc place) slots
        ])

    -- the places after an empty slot, and after a row
    places_of-none : (slots : List (Option R)) → places_of test (None ∷ slots) ≡ map suc (places_of test slots)
    places_of-none slots = places_from-next 0 slots

    places_of-some : (row : R) (slots : List (Option R)) →
        places_of test (Some row ∷ slots)
        ≡ cond (test row) (0 ∷ map suc (places_of test slots)) (map suc (places_of test slots))
    places_of-some row slots = ap (λ rest. cond (test row) (0 ∷ rest) rest) (places_from-next 0 slots)

    -- how a choice by a test goes with one by another
    pushed : (this last : Bool) (places end : List ℕ) →
        cond this (0 ∷ cond last (places ++ end) places) (cond last (places ++ end) places)
        ≡ cond last (cond this (0 ∷ places) places ++ end) (cond this (0 ∷ places) places)
    pushed true true places end = refl
    pushed true false places end = refl
    pushed false true places end = refl
    pushed false false places end = refl

    next_pushed : (last : Bool) (places : List ℕ) (place : ℕ) →
        map suc (cond last (places ++ place ∷ []) places)
        ≡ cond last (map suc places ++ suc place ∷ []) (map suc places)
    next_pushed true places place = map-append suc places (place ∷ [])
    next_pushed false places place = refl

    -- a row that is added last
    pub places_of-push : (slots : List (Option R)) (row : R) →
        places_of test (slots ++ Some row ∷ [])
        ≡ cond (test row) (places_of test slots ++ length slots ∷ []) (places_of test slots)
    places_of-push [] row = refl
    places_of-push (None ∷ slots) row =
        places_of-none (slots ++ Some row ∷ []) ∙ ap (map suc) (places_of-push slots row)
        ∙ next_pushed (test row) (places_of test slots) (length slots)
        ∙ ap (λ places. cond (test row) (places ++ suc (length slots) ∷ []) places) (sym (places_of-none slots))
    places_of-push (Some first ∷ slots) row =
        places_of-some first (slots ++ Some row ∷ [])
        ∙ ap (λ rest. cond (test first) (0 ∷ rest) rest)
        (ap (map suc) (places_of-push slots row) ∙ next_pushed (test row) (places_of test slots) (length slots))
        ∙ pushed (test first) (test row) (map suc (places_of test slots)) (suc (length slots) ∷ [])
        ∙ ap (λ places. cond (test row) (places ++ suc (length slots) ∷ []) places) (sym (places_of-some first slots))

    without_first : (this : Bool) (places : List ℕ) →
        map suc places
        ≡ cond this (remove_key (nat_eq zero) (cond this (0 ∷ map suc places) (map suc places)))
        (cond this (0 ∷ map suc places) (map suc places))
    without_first true places = refl
    without_first false places = refl

    next_without : (last : Bool) (place : ℕ) (places : List ℕ) →
        map suc (cond last (remove_key (nat_eq place) places) places)
        ≡ cond last (remove_key (nat_eq (suc place)) (map suc places)) (map suc places)
    next_without true place places = sym (next_numbers-without place places)
    next_without false place places = refl

    without_later : (this last : Bool) (place : ℕ) (places : List ℕ) →
        cond this (0 ∷ cond last (remove_key (nat_eq (suc place)) (map suc places)) (map suc places))
        (cond last (remove_key (nat_eq (suc place)) (map suc places)) (map suc places))
        ≡ cond last (remove_key (nat_eq (suc place)) (cond this (0 ∷ map suc places) (map suc places)))
        (cond this (0 ∷ map suc places) (map suc places))
    without_later true true place places =
        ap (λ b. cond b (map suc places) (0 ∷ remove_key (nat_eq (suc place)) (map suc places)))
        (sym (eqb-suc-zero place))
    without_later true false place places = refl
    without_later false true place places = refl
    without_later false false place places = refl

    -- the place of a row is gone once its slot is emptied
    pub places_of-emptied : (place : ℕ) (slots : List (Option R)) (row : R) → row_at slots place ≡ Some row →
        places_of test (empty_slot place slots)
        ≡ cond (test row) (remove_key (nat_eq place) (places_of test slots)) (places_of test slots)
    places_of-emptied place [] row there = absurd (none-some row there)
    places_of-emptied zero (None ∷ slots) row there = absurd (none-some row there)
    places_of-emptied zero (Some first ∷ slots) row there =
        places_of-none slots ∙ without_first (test first) (places_of test slots)
        ∙ ap (λ places. cond (test first) (remove_key (nat_eq zero) places) places) (sym (places_of-some first slots))
        ∙ ap (λ last. cond (test last) (remove_key (nat_eq zero) (places_of test (Some first ∷ slots)))
        (places_of test (Some first ∷ slots))) (same_Some first row there)
    places_of-emptied (suc place) (None ∷ slots) row there =
        places_of-none (empty_slot place slots) ∙ ap (map suc) (places_of-emptied place slots row there)
        ∙ next_without (test row) place (places_of test slots)
        ∙ ap (λ places. cond (test row) (remove_key (nat_eq (suc place)) places) places) (sym (places_of-none slots))
    places_of-emptied (suc place) (Some first ∷ slots) row there =
        places_of-some first (empty_slot place slots)
        ∙ ap (λ rest. cond (test first) (0 ∷ rest) rest)
        (ap (map suc) (places_of-emptied place slots row there)
        ∙ next_without (test row) place (places_of test slots))
        ∙ without_later (test first) (test row) place (places_of test slots)
        ∙ ap (λ places. cond (test row) (remove_key (nat_eq (suc place)) places) places)
        (sym (places_of-some first slots))

    -- the place of a row that passes is among them
    pub is_member-places_of : (place : ℕ) (slots : List (Option R)) (row : R) → row_at slots place ≡ Some row →
        test row ≡ true → is_member nat_eq (places_of test slots) place ≡ true
    is_member-places_of place [] row there passes = absurd (none-some row there)
    is_member-places_of zero (None ∷ slots) row there passes = absurd (none-some row there)
    is_member-places_of zero (Some first ∷ slots) row there passes =
        let first_passes : test first ≡ true = ap test (same_Some first row there) ∙ passes in rw first_passes refl
    is_member-places_of (suc place) (None ∷ slots) row there passes =
        rw (places_of-none slots)
        (next_is_member place (places_of test slots) (is_member-places_of place slots row there passes))
    is_member-places_of (suc place) (Some first ∷ slots) row there passes =
        let later : is_member nat_eq (map suc (places_of test slots)) (suc place) ≡ true =
        next_is_member place (places_of test slots) (is_member-places_of place slots row there passes) in
        rw (places_of-some first slots) (elim (test first) as
        (λ b. is_member nat_eq (cond b (0 ∷ map suc (places_of test slots)) (map suc (places_of test slots)))
        (suc place)
        ≡ true) [
          | true ↦ rw (eqb-suc-zero place) later
          | false ↦ later
        ])

    rows_next : (slot : Option R) (slots : List (Option R)) (places : List ℕ) →
        map (row_at (slot ∷ slots)) (map suc places) ≡ map (row_at slots) places
    rows_next slot slots places = map-map (row_at (slot ∷ slots)) suc places

    -- the rows at the places are those that pass the test
    pub rows-places_of : (slots : List (Option R)) →
        map (row_at slots) (places_of test slots) ≡ map Some (filter test (rows_in slots))
    rows-places_of [] = refl
    rows-places_of (None ∷ slots) =
        ap (map (row_at (None ∷ slots))) (places_of-none slots) ∙ rows_next None slots (places_of test slots)
        ∙ rows-places_of slots
    rows-places_of (Some row ∷ slots) =
        let rest = rows_next (Some row) slots (places_of test slots) ∙ rows-places_of slots in
        ap (map (row_at (Some row ∷ slots))) (places_of-some row slots)
        ∙ elim (test row) as
        (λ b. map (row_at (Some row ∷ slots))
        (cond b (0 ∷ map suc (places_of test slots)) (map suc (places_of test slots)))
        ≡ map Some (cond b (row ∷ filter test (rows_in slots)) (filter test (rows_in slots)))) [
          | true ↦ ap (λ rows. Some row ∷ rows) rest
          | false ↦ rest
        ]

    pub length-places_of : (slots : List (Option R)) →
        length (places_of test slots) ≡ length (filter test (rows_in slots))
    length-places_of slots =
        sym (length-map (places_of test slots) (row_at slots)) ∙ ap (λ rows. length rows) (rows-places_of slots)
        ∙ length-map (filter test (rows_in slots)) Some

    none_pass : (rows : List R) → length (filter test rows) ≡ 0 → filter (λ row. not (test row)) rows ≡ rows
    none_pass [] none = refl
    none_pass (row ∷ rows) none =
        elim (test row) as
        (λ b. length (cond b (row ∷ filter test rows) (filter test rows)) ≡ 0 →
        cond (not b) (row ∷ filter (λ r. not (test r)) rows) (filter (λ r. not (test r)) rows) ≡ row ∷ rows) [
          | true ↦ λ none. absurd (omega arith)
          | false ↦ λ none. ap (λ rest. row ∷ rest) (none_pass rows none)
        ] none

    some_passes : (place : ℕ) (slots : List (Option R)) (row : R) → row_at slots place ≡ Some row → test row ≡ true →
        1 ≤ length (filter test (rows_in slots))
    some_passes place slots row there passes =
        omega (
          arith,
          length-places_of slots,
          member_counts (places_of test slots) place (is_member-places_of place slots row there passes),
        )

    -- without the one row that passes the test
    pub rows_in-emptied : (place : ℕ) (slots : List (Option R)) (row : R) → row_at slots place ≡ Some row →
        test row ≡ true → length (filter test (rows_in slots)) ≤ 1 →
        rows_in (empty_slot place slots) ≡ filter (λ row. not (test row)) (rows_in slots)
    rows_in-emptied place [] row there passes once = absurd (none-some row there)
    rows_in-emptied zero (None ∷ slots) row there passes once = absurd (none-some row there)
    rows_in-emptied zero (Some first ∷ slots) row there passes once =
        let first_passes : test first ≡ true = ap test (same_Some first row there) ∙ passes in
        let few = rw first_passes at once in
        rw first_passes (sym (none_pass (rows_in slots) (omega (arith, few))))
    rows_in-emptied (suc place) (None ∷ slots) row there passes once =
        rows_in-emptied place slots row there passes once
    rows_in-emptied (suc place) (Some first ∷ slots) row there passes once =
        elim (test first) as
        (λ b. length (cond b (first ∷ filter test (rows_in slots)) (filter test (rows_in slots))) ≤ 1 →
        first ∷ rows_in (empty_slot place slots)
        ≡ cond (not b) (first ∷ filter (λ r. not (test r)) (rows_in slots))
        (filter (λ r. not (test r)) (rows_in slots))) [
          | true ↦ λ once. absurd (omega (arith, some_passes place slots row there passes))
          | false ↦ λ once. ap (λ rest. first ∷ rest) (rows_in-emptied place slots row there passes once)
        ] once
