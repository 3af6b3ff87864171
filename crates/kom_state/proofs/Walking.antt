-- A walk along a list by places.
use Rattle.std.proofs.Common.{◌≡◌, ℕ, ◌+◌, ◌≤◌, List, [], ◌∷◌, length, drop, map, Some, None, refl, ap, ◌∙◌}
use Rattle.std.specs.Prelude.{option_map, unwrap_or}
use Rattle.std.specs.List.{slice_get}
use Rattle.std.proofs.lemmas.List.{drop_more, drop_all}
use Rattle.std.proofs.lemmas.Option.{none-some, slice_get_within, get_or_from_slice_get}

module _ {X : Type 0} (xs : List X) (place : ℕ) where
  pub walk_ended : length xs ≤ place → drop place xs ≡ []
  walk_ended past = drop_all place xs past

  pub walk_goes : (x : X) → slice_get xs place ≡ Some x → drop place xs ≡ x ∷ drop (place + 1) xs
  walk_goes x here =
      drop_more xs place x (slice_get_within xs place x here)
      ∙ ap (λ one. one ∷ drop (place + 1) xs) (get_or_from_slice_get xs place x x here)

  pub mapped_goes : {Y : Type 0} (f : X → Y) (y : Y) → option_map f (slice_get xs place) ≡ Some y →
      map f (drop place xs) ≡ y ∷ map f (drop (place + 1) xs)
  mapped_goes f y is =
      elim (slice_get xs place) as (λ found. slice_get xs place ≡ found → option_map f found ≡ Some y →
      map f (drop place xs) ≡ y ∷ map f (drop (place + 1) xs)) [
        | None ↦ λ here none. absurd (none-some y none)
        | Some x ↦ λ here some. ap (map f) (walk_goes x here)
            ∙ ap (λ found. unwrap_or found y ∷ map f (drop (place + 1) xs)) some
      ] refl is
