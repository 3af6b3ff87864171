-- What a filter keeps, from what its test finds.
use Rattle.std.proofs.Common.{◌≡◌, Bool, not, List, [], ◌∷◌, map, filter, find, Some, None, refl, ap, inl, inr}
use Rattle.std.proofs.lemmas.Bool.{cases_Bool}

module _ {X : Type 0} (test : X → Bool) where
  -- if nothing passes a test, the other test keeps all
  pub all_stay : (xs : List X) → find test xs ≡ None → filter (λ x. not (test x)) xs ≡ xs
  all_stay [] none = refl
  all_stay (x ∷ xs) none = elim (cases_Bool (test x)) [
    | inl is ↦ let some : Some x ≡ None = rw is at none in cc
    | inr is ↦ let later : find test xs ≡ None = rw is at none in rw is (ap (λ l. x ∷ l) (all_stay xs later))
  ]

  pub all_stay-none_pass : (xs : List X) → filter test xs ≡ [] → filter (λ x. not (test x)) xs ≡ xs
  all_stay-none_pass [] none = refl
  all_stay-none_pass (x ∷ xs) none = elim (cases_Bool (test x)) [
    | inl is ↦ let some : x ∷ filter test xs ≡ [] = rw is at none in cc
    | inr is ↦
        let later : filter test xs ≡ [] = rw is at none in rw is (ap (λ l. x ∷ l) (all_stay-none_pass xs later))
  ]

module _ {X Y : Type 0} (test : Y → Bool) (f : X → Y) where
  pub filter-map : (xs : List X) → filter test (map f xs) ≡ map f (filter (λ x. test (f x)) xs)
  filter-map [] = refl
  filter-map (x ∷ xs) = elim (cases_Bool (test (f x))) [
    | inl is ↦ rw is (ap (λ l. f x ∷ l) (filter-map xs))
    | inr is ↦ rw is (filter-map xs)
  ]
