-- What is pushed for one element of a list after another.
use Rattle.std.proofs.Common.{◌≡◌, ℕ, ◌+◌, ◌<◌, List, [], ◌∷◌, ◌++◌, length, drop, Some, None}
use Rattle.std.proofs.Common.{sym, ap, ◌∙◌, append_assoc, inl, inr, ◌≤◌, arith}
use Rattle.std.specs.List.{slice_get}
use Rattle.std.proofs.lemmas.List.{drop_more}
use Rattle.std.proofs.lemmas.Option.{none-some, slice_get_within, slice_get_cases, get_or_from_slice_get}

-- `each` of a list is what is pushed for its elements, one after another; `all` is what stands there in the end
module _ {X Y : Type 0} (each : List X → List Y) (joined : (xs ys : List X) → each (xs ++ ys) ≡ each xs ++ each ys)
    (all : List Y) (xs : List X) (place : ℕ) where
  -- the element at a place is pushed, and the rest is to come
  pub pushed-found : (x : X) (now new : List Y) → slice_get xs place ≡ Some x → now ++ each (drop place xs) ≡ all →
      new ≡ now ++ each (x ∷ []) → new ++ each (drop (place + 1) xs) ≡ all
  pushed-found x now new here is push =
      let rest = drop (place + 1) xs in
      let split : drop place xs ≡ x ∷ rest =
      drop_more xs place x (slice_get_within xs place x here)
      ∙ ap (λ one. one ∷ rest) (get_or_from_slice_get xs place x x here) in
      ap (λ l. l ++ each rest) push ∙ append_assoc now (each (x ∷ [])) (each rest)
      ∙ ap (λ l. now ++ l) (sym (joined (x ∷ []) rest) ∙ ap each (sym split)) ∙ is

-- no place within the list is empty
pub found-within : {X : Type 0} (xs : List X) (place : ℕ) → place < length xs → slice_get xs place ≡ None → ⊥
found-within xs place inside none =
    elim (slice_get_cases xs place).1 [
      | inl found ↦ none-some found.0 (sym none ∙ found.2)
      | inr past ↦ let le : length xs ≤ place = past.0 in omega arith
    ]
