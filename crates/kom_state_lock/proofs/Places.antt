-- Lists by their places, and how many elements pass a test.
use Rattle.std.proofs.Common.{◌≡◌, ℕ, zero, suc, ◌+◌, ◌<◌, ◌≤◌, ◌⊎◌, inl, inr, Bool, cond, List, [], ◌∷◌, ◌++◌, length}
use Rattle.std.proofs.Common.{set, sym, refl, ap, arith}
use Rattle.std.specs.Prelude.{count_by}
use Rattle.std.specs.List.{sum_by}
use Rattle.std.proofs.lemmas.List.Sums.{sum_by-cons, sum_by-append}
use mathlib.Core.Option.{some, some-injective, some-ne-none}
use lib.ListN.{get_elem?}

module _ {A : Type 0} where
  pub here_below : (xs : List A) (i : ℕ) (x : A) → get_elem? xs i ≡ some x → i < length xs
  here_below [] i x e = absurd (some-ne-none x (sym e))
  here_below (y ∷ xs) zero x e = omega arith
  here_below (y ∷ xs) (suc i) x e = let h : i < length xs = here_below xs i x e in omega arith

  pub at_end : (xs : List A) (x y : A) (i : ℕ) → get_elem? (xs ++ x ∷ []) i ≡ some y → (get_elem? xs i ≡ some y)
      ⊎ ((i ≡ length xs) × (x ≡ y))
  at_end [] x y zero e = inr (refl, some-injective x y e)
  at_end [] x y (suc i) e = absurd (some-ne-none y (sym e))
  at_end (z ∷ xs) x y zero e = inl e
  at_end (z ∷ xs) x y (suc i) e = elim (at_end xs x y i e) [ inl h ↦ inl h | inr h ↦ inr (ap suc h.0, h.1) ]

  sum_set : (f : A → ℕ) (xs : List A) (i : ℕ) (x y : A) → get_elem? xs i ≡ some x
      → sum_by f (set xs i y) + f x ≡ sum_by f xs + f y
  sum_set f [] i x y e = absurd (some-ne-none x (sym e))
  sum_set f (z ∷ xs) zero x y e = let same : f z ≡ f x = ap f (some-injective z x e) in
      omega (arith, sum_by-cons f z xs, sum_by-cons f y xs)
  sum_set f (z ∷ xs) (suc i) x y e =
      omega (arith, sum_set f xs i x y e, sum_by-cons f z xs, sum_by-cons f z (set xs i y))

  pub count_set : (p : A → Bool) (xs : List A) (i : ℕ) (x y : A) → get_elem? xs i ≡ some x
      → count_by p (set xs i y) + cond (p x) 1 0 ≡ count_by p xs + cond (p y) 1 0
  count_set p xs i x y e = sum_set (λ z. cond (p z) 1 0) xs i x y e

  pub count_end : (p : A → Bool) (xs : List A) (x : A) → count_by p (xs ++ x ∷ []) ≡ count_by p xs + cond (p x) 1 0
  count_end p xs x = omega (arith, sum_by-append (λ z. cond (p z) 1 0) xs (x ∷ []))

  sum_less : (f h : A → ℕ) (xs : List A) → ((x : A) → f x ≤ h x) → sum_by f xs ≤ sum_by h xs
  sum_less f h [] each = omega arith
  sum_less f h (x ∷ xs) each = omega (arith, sum_less f h xs each, each x, sum_by-cons f x xs, sum_by-cons h x xs)

  pub count_less : (p q : A → Bool) (xs : List A) → ((x : A) → cond (p x) 1 0 ≤ cond (q x) 1 0)
      → count_by p xs ≤ count_by q xs
  count_less p q xs each = sum_less (λ x. cond (p x) 1 0) (λ x. cond (q x) 1 0) xs each

  pub in_either : (xs ys : List A) (k : ℕ) (x : A) → get_elem? (xs ++ ys) k ≡ some x
      → ((i : ℕ) × (get_elem? xs i ≡ some x)) ⊎ ((i : ℕ) × (get_elem? ys i ≡ some x))
  in_either [] ys k x e = inr (k, e)
  in_either (z ∷ xs) ys zero x e = inl (zero, e)
  in_either (z ∷ xs) ys (suc k) x e = elim (in_either xs ys k x e) [ inl h ↦ inl (suc h.0, h.1) | inr h ↦ inr h ]

  pub in_second : (xs ys : List A) (k : ℕ) (x : A) → get_elem? ys k ≡ some x → (i : ℕ)
      × (get_elem? (xs ++ ys) i ≡ some x)
  in_second [] ys k x e = (k, e)
  in_second (z ∷ xs) ys k x e = let h = in_second xs ys k x e in (suc h.0, h.1)
