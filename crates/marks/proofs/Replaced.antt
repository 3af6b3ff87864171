-- The rows, and the places of those that pass a test, after the row in a slot is another one.
use Rattle.std.proofs.Common.{◌≡◌, ℕ, zero, suc, ◌+◌, ◌≤◌, Bool, true, false, cond, List, [], ◌∷◌, length, map, filter}
use Rattle.std.proofs.Common.{Option, Some, None, refl, sym, ◌∙◌, ap, arith}
use Rattle.std.proofs.lemmas.Option.{none-some, same_Some}
use Rattle.row_slots.specs.Slots.{rows_in, places_from, places_of, replace_row}
use Rattle.row_slots.proofs.Places.{row_at}

module _ {R : Type 0} (test : R → Bool) where
  places_from-replaced : (from place : ℕ) (slots : List (Option R)) (old row : R) → row_at slots place ≡ Some old →
      test row ≡ test old → places_from test from (replace_row place row slots) ≡ places_from test from slots
  places_from-replaced from place [] old row there alike = refl
  places_from-replaced from zero (None ∷ slots) old row there alike = refl
  places_from-replaced from zero (Some first ∷ slots) old row there alike =
      let same : test row ≡ test first = alike ∙ sym (ap test (same_Some first old there)) in
      λ i. cond (same i) (from ∷ places_from test (from + 1) slots) (places_from test (from + 1) slots)
  places_from-replaced from (suc place) (None ∷ slots) old row there alike =
      places_from-replaced (from + 1) place slots old row there alike
  places_from-replaced from (suc place) (Some first ∷ slots) old row there alike =
      ap (λ rest. cond (test first) (from ∷ rest) rest)
      (places_from-replaced (from + 1) place slots old row there alike)

  -- where the test tells the two rows not apart, all places are the same
  pub places_of-replaced : (place : ℕ) (slots : List (Option R)) (old row : R) → row_at slots place ≡ Some old →
      test row ≡ test old → places_of test (replace_row place row slots) ≡ places_of test slots
  places_of-replaced place slots old row there alike = places_from-replaced 0 place slots old row there alike

  none_replaced : (row : R) (rows : List R) → length (filter test rows) ≡ 0 →
      map (λ other. cond (test other) row other) rows ≡ rows
  none_replaced row [] none = refl
  none_replaced row (first ∷ rows) none =
      elim (test first) as
      (λ b. length (cond b (first ∷ filter test rows) (filter test rows)) ≡ 0 →
      cond b row first ∷ map (λ other. cond (test other) row other) rows ≡ first ∷ rows) [
        | true ↦ λ none. absurd (omega arith)
        | false ↦ λ none. ap (λ rest. first ∷ rest) (none_replaced row rows none)
      ] none

  some_passes : (place : ℕ) (slots : List (Option R)) (old : R) → row_at slots place ≡ Some old → test old ≡ true →
      1 ≤ length (filter test (rows_in slots))
  some_passes place [] old there passes = absurd (none-some old there)
  some_passes zero (None ∷ slots) old there passes = absurd (none-some old there)
  some_passes zero (Some first ∷ slots) old there passes =
      let first_passes : test first ≡ true = ap test (same_Some first old there) ∙ passes in
      rw first_passes (omega arith)
  some_passes (suc place) (None ∷ slots) old there passes = some_passes place slots old there passes
  some_passes (suc place) (Some first ∷ slots) old there passes =
      let rest : 1 ≤ length (filter test (rows_in slots)) = some_passes place slots old there passes in
      elim (test first) as
      (λ b. 1 ≤ length (cond b (first ∷ filter test (rows_in slots)) (filter test (rows_in slots)))) [
        | true ↦ omega (arith, rest)
        | false ↦ rest
      ]

  -- the one row that passes the test is another one then
  pub rows_in-replaced : (place : ℕ) (slots : List (Option R)) (old row : R) → row_at slots place ≡ Some old →
      test old ≡ true → length (filter test (rows_in slots)) ≤ 1 →
      rows_in (replace_row place row slots) ≡ map (λ other. cond (test other) row other) (rows_in slots)
  rows_in-replaced place [] old row there passes once = absurd (none-some old there)
  rows_in-replaced zero (None ∷ slots) old row there passes once = absurd (none-some old there)
  rows_in-replaced zero (Some first ∷ slots) old row there passes once =
      let first_passes : test first ≡ true = ap test (same_Some first old there) ∙ passes in
      let few = rw first_passes at once in
      rw first_passes (ap (λ rest. row ∷ rest) (sym (none_replaced row (rows_in slots) (omega (arith, few)))))
  rows_in-replaced (suc place) (None ∷ slots) old row there passes once =
      rows_in-replaced place slots old row there passes once
  rows_in-replaced (suc place) (Some first ∷ slots) old row there passes once =
      elim (test first) as
      (λ b. length (cond b (first ∷ filter test (rows_in slots)) (filter test (rows_in slots))) ≤ 1 →
      first ∷ rows_in (replace_row place row slots)
      ≡ cond b row first ∷ map (λ other. cond (test other) row other) (rows_in slots)) [
        | true ↦ λ once. absurd (omega (arith, some_passes place slots old there passes))
        | false ↦ λ once. ap (λ rest. first ∷ rest) (rows_in-replaced place slots old row there passes once)
      ] once

  -- as many rows pass where each passes as the one that it becomes
  pub length-filter-changed : (change : R → R) → ((row : R) → test (change row) ≡ test row) → (rows : List R) →
      length (filter test (map change rows)) ≡ length (filter test rows)
  length-filter-changed change same [] = refl
  length-filter-changed change same (row ∷ rows) =
      let rest : length (filter test (map change rows)) ≡ length (filter test rows) =
      length-filter-changed change same rows in
      rw (same row) (elim (test row) as
      (λ b. length (cond b (change row ∷ filter test (map change rows)) (filter test (map change rows)))
      ≡ length (cond b (row ∷ filter test rows) (filter test rows))) [
        | true ↦ ap suc rest
        | false ↦ rest
      ])
