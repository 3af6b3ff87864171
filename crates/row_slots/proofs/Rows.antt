-- The rows in slots: after a row is added, and after a slot is emptied.
use Rattle.std.proofs.Common.{◌≡◌, ℕ, zero, suc, ◌<◌, Bor, true, false, is_some, option_copied, List, [], ◌∷◌, ◌++◌}
use Rattle.std.proofs.Common.{length, slice_get, Option, Some, None, refl, sym, ap, arith}
use Rattle.std.specs.Option.{option_flatten}
use Rattle.std.proofs.Math.ListN.{set}
use Rattle.std.proofs.lemmas.Bool.{false≢true}
use Rattle.std.proofs.lemmas.Option.{none-some}
use Rattle.row_slots.specs.Slots.{rows_in, empty_slot, replace_row}

module _ {R : Type 0} where
  pub rows_in-push : (slots : List (Option R)) (row : R) → rows_in (slots ++ Some row ∷ []) ≡ rows_in slots ++ row ∷ []
  rows_in-push [] row = refl
  rows_in-push (None ∷ slots) row = rows_in-push slots row
  rows_in-push (Some first ∷ slots) row = ap (λ rows. first ∷ rows) (rows_in-push slots row)

  pub emptied-set : (place : ℕ) (slots : List (Option R)) → set slots place None ≡ empty_slot place slots
  emptied-set place [] = refl
  emptied-set zero (slot ∷ slots) = refl
  emptied-set (suc place) (slot ∷ slots) = ap (λ rest. slot ∷ rest) (emptied-set place slots)

  -- a slot that is empty, or is not there, is emptied for nothing
  pub emptied-empty : (place : ℕ) (slots : List (Option R)) → option_flatten (slice_get slots place) ≡ None →
      empty_slot place slots ≡ slots
  emptied-empty place [] empty = refl
  emptied-empty zero (slot ∷ slots) empty = ap (λ first. first ∷ slots) (sym empty)
  emptied-empty (suc place) (slot ∷ slots) empty = ap (λ rest. slot ∷ rest) (emptied-empty place slots empty)

  -- the row of a full slot is another one
  pub replaced-set : (place : ℕ) (row : R) (slots : List (Option R)) (first : R) →
      option_flatten (slice_get slots place) ≡ Some first → set slots place (Some row) ≡ replace_row place row slots
  replaced-set place row [] first there = absurd (none-some first there)
  replaced-set zero row (None ∷ slots) first there = absurd (none-some first there)
  replaced-set zero row (Some other ∷ slots) first there = refl
  replaced-set (suc place) row (slot ∷ slots) first there =
      ap (λ rest. slot ∷ rest) (replaced-set place row slots first there)

  -- a slot that is empty, or is not there, stays so
  pub replaced-empty : (place : ℕ) (row : R) (slots : List (Option R)) →
      option_flatten (slice_get slots place) ≡ None → replace_row place row slots ≡ slots
  replaced-empty place row [] empty = refl
  replaced-empty zero row (None ∷ slots) empty = refl
  replaced-empty zero row (Some first ∷ slots) empty = absurd (none-some first (sym empty))
  replaced-empty (suc place) row (slot ∷ slots) empty = ap (λ rest. slot ∷ rest) (replaced-empty place row slots empty)

  -- what is read behind a reference
  pub read_none : (found : Option (Bor R)) → is_some found ≡ false → option_copied found ≡ None
  read_none None none = refl
  read_none (Some row) none = absurd (false≢true (sym none))

  pub read_some : (found : Option (Bor R)) → is_some found ≡ true → (row : R) × (option_copied found ≡ Some row)
  read_some None some = absurd (false≢true some)
  read_some (Some row) some = (row.now, refl)

  pub within_slots : (place : ℕ) (slots : List (Option R)) (row : R) →
      option_flatten (slice_get slots place) ≡ Some row → place < length slots
  within_slots place [] row there = absurd (none-some row there)
  within_slots zero (slot ∷ slots) row there = omega arith
  within_slots (suc place) (slot ∷ slots) row there = omega (arith, within_slots place slots row there)
