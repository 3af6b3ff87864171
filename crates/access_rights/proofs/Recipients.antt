-- Whether something of a list passes a test, by the places of the list.
use Rattle.std.proofs.Common.{◌≡◌, ℕ, ◌+◌, Bool, false, true, ◌||◌, List, Some, take, get_or, ap, ◌∙◌}
use Rattle.std.specs.List.{list_any, slice_get}
use Rattle.std.proofs.lemmas.List.Folds.{list_any_at, list_any_more}
use Rattle.std.proofs.lemmas.Option.{get_or_from_slice_get, slice_get_within}

module _ {A : Type 0} (test : A → Bool) (rows : List A) (place : ℕ) (row : A) where
  -- a test tells of the element at a place as of what is read there
  told_at : (b : Bool) → slice_get rows place ≡ Some row → test row ≡ b → test (get_or rows place row) ≡ b
  told_at b is told = ap test (get_or_from_slice_get rows place row row is) ∙ told

  pub any_at : slice_get rows place ≡ Some row → test row ≡ true → list_any test rows ≡ true
  any_at is passed =
      list_any_at test rows place row (slice_get_within rows place row is) (told_at true is passed)

  pub none_more : list_any test (take place rows) ≡ false → slice_get rows place ≡ Some row → test row ≡ false →
      list_any test (take (place + 1) rows) ≡ false
  none_more before is failed =
      list_any_more test rows place row (slice_get_within rows place row is)
      ∙ ap (λ b. b || test (get_or rows place row)) before ∙ told_at false is failed
