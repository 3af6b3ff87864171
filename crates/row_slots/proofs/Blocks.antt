-- Slots in blocks: what stands in a slot of a block, and of the blocks one after the other, and after a change of one.
use Rattle.std.proofs.Common.{◌≡◌, ℕ, zero, suc, false, is_some, List, [], ◌∷◌, length, slice_get, Option, Some, None}
use Rattle.std.proofs.Common.{refl, sym, ap, ◌∙◌, arith}
use Rattle.std.specs.List.{list_any}
use Rattle.std.specs.Option.{option_flatten}
use Rattle.std.specs.Prelude.{replicate}
use Rattle.std.proofs.lemmas.Bool.{false≢true}
use Rattle.row_slots.specs.Slots.{empty_slot, replace_row, spread, IsBlock}

module _ {R : Type 0} where
  -- ---- slots that are empty

  none_at : (count place : ℕ) → option_flatten (slice_get (replicate {A = Option R} count None) place) ≡ None
  none_at zero place = refl
  none_at (suc count) zero = refl
  none_at (suc count) (suc place) = none_at count place

  emptied_nones : (count place : ℕ) → empty_slot {R = R} place (replicate count None) ≡ replicate count None
  emptied_nones zero place = refl
  emptied_nones (suc count) zero = refl
  emptied_nones (suc count) (suc place) = ap (λ rest. None ∷ rest) (emptied_nones count place)

  replaced_nones : (count place : ℕ) (row : R) → replace_row place row (replicate count None) ≡ replicate count None
  replaced_nones zero place row = refl
  replaced_nones (suc count) zero row = refl
  replaced_nones (suc count) (suc place) row = ap (λ rest. None ∷ rest) (replaced_nones count place row)

  nones : (slots : List (Option R)) → list_any is_some slots ≡ false → slots ≡ replicate (length slots) None
  nones [] none = refl
  nones (None ∷ slots) none = ap (λ rest. None ∷ rest) (nones slots none)
  nones (Some row ∷ slots) none = absurd (false≢true (sym none))

  -- ---- the slots of a block

  pub get-spread : (slots : List (Option R)) (place : ℕ) →
      option_flatten (slice_get (spread slots) place) ≡ option_flatten (slice_get slots place)
  get-spread [] place = none_at 64 place
  get-spread (slot ∷ slots) place = refl

  pub spread-emptied : (place : ℕ) (slots : List (Option R)) →
      spread (empty_slot place slots) ≡ empty_slot place (spread slots)
  spread-emptied place [] = sym (emptied_nones 64 place)
  spread-emptied zero (slot ∷ slots) = refl
  spread-emptied (suc place) (slot ∷ slots) = refl

  pub spread-replaced : (place : ℕ) (row : R) (slots : List (Option R)) →
      spread (replace_row place row slots) ≡ replace_row place row (spread slots)
  spread-replaced place row [] = sym (replaced_nones 64 place row)
  spread-replaced zero row (None ∷ slots) = refl
  spread-replaced zero row (Some first ∷ slots) = refl
  spread-replaced (suc place) row (slot ∷ slots) = refl

  pub spread-whole : (slots : List (Option R)) → length slots ≡ 64 → spread slots ≡ slots
  spread-whole [] whole = absurd (omega arith)
  spread-whole (slot ∷ slots) whole = refl

  pub spread-nones : (slots : List (Option R)) → IsBlock (spread slots) → list_any is_some slots ≡ false →
      spread [] ≡ spread slots
  spread-nones [] whole none = refl
  spread-nones (slot ∷ slots) whole none =
      sym (nones (slot ∷ slots) none ∙ ap (λ count. replicate count None) whole)

  pub length-emptied : (place : ℕ) (slots : List (Option R)) → length (empty_slot place slots) ≡ length slots
  length-emptied place [] = refl
  length-emptied zero (slot ∷ slots) = refl
  length-emptied (suc place) (slot ∷ slots) = ap suc (length-emptied place slots)

  pub length-replaced : (place : ℕ) (row : R) (slots : List (Option R)) →
      length (replace_row place row slots) ≡ length slots
  length-replaced place row [] = refl
  length-replaced zero row (None ∷ slots) = refl
  length-replaced zero row (Some first ∷ slots) = refl
  length-replaced (suc place) row (slot ∷ slots) = ap suc (length-replaced place row slots)
