-- The rows that are still to come, from a slot on.
use Rattle.std.proofs.Common.{◌≡◌, ℕ, zero, suc, ◌≤◌, List, [], ◌∷◌, length, drop, slice_get, Option, Some, None, refl}
use Rattle.std.proofs.Common.{ap, ◌∙◌, ◌+◌, sym, arith, add-one}
use Rattle.std.specs.Option.{option_flatten}
use Rattle.row_slots.specs.Slots.{rows_in}

module _ {R : Type 0} where
  -- an empty slot is passed over
  passed_over : (slots : List (Option R)) (place : ℕ) → option_flatten (slice_get slots place) ≡ None →
      rows_in (drop place slots) ≡ rows_in (drop (suc place) slots)
  passed_over [] zero none = refl
  passed_over [] (suc place) none = refl
  passed_over (None ∷ slots) zero none = refl
  passed_over (Some row ∷ slots) zero none = absurd (cc none)
  passed_over (slot ∷ slots) (suc place) none = passed_over slots place none

  -- the row of a slot is the first of those from there on
  comes_first : (slots : List (Option R)) (place : ℕ) (row : R) →
      option_flatten (slice_get slots place) ≡ Some row →
      rows_in (drop place slots) ≡ row ∷ rows_in (drop (suc place) slots)
  comes_first [] zero row there = absurd (cc there)
  comes_first [] (suc place) row there = absurd (cc there)
  comes_first (None ∷ slots) zero row there = absurd (cc there)
  comes_first (Some one ∷ slots) zero row there =
      ap (λ (r : R). r ∷ rows_in slots) (same one row there) where
        same : (a b : R) → Some a ≡ Some b → a ≡ b
        same a b is = cc
  comes_first (slot ∷ slots) (suc place) row there = comes_first slots place row there

  -- past the last slot no row is left
  pub none_past : (slots : List (Option R)) (place : ℕ) → length slots ≤ place → rows_in (drop place slots) ≡ []
  none_past [] zero past = refl
  none_past [] (suc place) past = refl
  none_past (slot ∷ slots) zero past = absurd (omega (arith, past))
  none_past (slot ∷ slots) (suc place) past = none_past slots place (omega (arith, past))

  -- the same of the next place
  pub goes_on : (slots : List (Option R)) (place : ℕ) → None ≡ option_flatten (slice_get slots place) →
      rows_in (drop place slots) ≡ rows_in (drop (place + 1) slots)
  goes_on slots place none =
      passed_over slots place (sym none) ∙ ap (λ (n : ℕ). rows_in (drop n slots)) (sym (add-one place))

  pub gives_first : (slots : List (Option R)) (place : ℕ) (row : R) →
      Some row ≡ option_flatten (slice_get slots place) →
      rows_in (drop place slots) ≡ row ∷ rows_in (drop (place + 1) slots)
  gives_first slots place row there =
      comes_first slots place row (sym there)
      ∙ ap (λ (n : ℕ). row ∷ rows_in (drop n slots)) (sym (add-one place))
