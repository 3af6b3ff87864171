-- What holds of each element of a list, and of each with every later one.
use Rattle.std.proofs.Common.{◌≡◌, Bool, true, false, cond, List, [], ◌∷◌, ◌++◌, map, filter, find, option_map, Some}
use Rattle.std.proofs.Common.{slice_get, ℕ, zero, suc, refl, sym, ◌∙◌, ap, subst}
use Rattle.std.specs.List.{AllByRecursion}
use Rattle.std.proofs.lemmas.Option.{same_Some, none-some}

module _ {X : Type 0} where
  pub all_weaker : (P Q : X → Type 0) → ((x : X) → P x → Q x) → (xs : List X) → AllByRecursion P xs →
      AllByRecursion Q xs
  all_weaker P Q f [] all = tt
  all_weaker P Q f (x ∷ xs) all = (f x all.0, all_weaker P Q f xs all.1)

  pub all_both : (P Q R : X → Type 0) → ((x : X) → P x → Q x → R x) → (xs : List X) → AllByRecursion P xs →
      AllByRecursion Q xs → AllByRecursion R xs
  all_both P Q R f [] one other = tt
  all_both P Q R f (x ∷ xs) one other = (f x one.0 other.0, all_both P Q R f xs one.1 other.1)

  pub all_filter : (P : X → Type 0) (test : X → Bool) (xs : List X) → AllByRecursion P xs →
      AllByRecursion P (filter test xs)
  all_filter P test [] all = tt
  all_filter P test (x ∷ xs) all =
      elim (test x) as (λ b. AllByRecursion P (cond b (x ∷ filter test xs) (filter test xs))) [
        | true ↦ (all.0, all_filter P test xs all.1)
        | false ↦ all_filter P test xs all.1
      ]

  pub all_push : (P : X → Type 0) (xs : List X) (y : X) → AllByRecursion P xs → P y → AllByRecursion P (xs ++ y ∷ [])
  all_push P [] y all last = (last, tt)
  all_push P (x ∷ xs) y all last = (all.0, all_push P xs y all.1 last)

  pub all_map : {Y : Type 0} (P : Y → Type 0) (f : X → Y) (xs : List X) → AllByRecursion (λ x. P (f x)) xs →
      AllByRecursion P (map f xs)
  all_map P f [] all = tt
  all_map P f (x ∷ xs) all = (all.0, all_map P f xs all.1)

  pub map_agree : {Y : Type 0} (f g : X → Y) (xs : List X) → AllByRecursion (λ x. f x ≡ g x) xs → map f xs ≡ map g xs
  map_agree f g [] all = refl
  map_agree f g (x ∷ xs) all = λ i. all.0 i ∷ map_agree f g xs all.1 i

  pub map-map : {Y Z : Type 0} (g : Y → Z) (f : X → Y) (xs : List X) → map g (map f xs) ≡ map (λ x. g (f x)) xs
  map-map g f [] = refl
  map-map g f (x ∷ xs) = ap (λ l. g (f x) ∷ l) (map-map g f xs)

  pub two_maps : {Y Z : Type 0} (f : X → Z) (g : Y → Z) (h : X → Y) (xs : List X) →
      AllByRecursion (λ x. f x ≡ g (h x)) xs → map f xs ≡ map g (map h xs)
  two_maps f g h xs all = map_agree f (λ x. g (h x)) xs all ∙ sym (map-map g h xs)

  pub filter-map : {Y : Type 0} (test : Y → Bool) (f : X → Y) (xs : List X) →
      filter test (map f xs) ≡ map f (filter (λ x. test (f x)) xs)
  filter-map test f [] = refl
  filter-map test f (x ∷ xs) =
      elim (test (f x)) as
      (λ b. cond b (f x ∷ filter test (map f xs)) (filter test (map f xs))
      ≡ map f (cond b (x ∷ filter (λ y. test (f y)) xs) (filter (λ y. test (f y)) xs))) [
        | true ↦ ap (λ l. f x ∷ l) (filter-map test f xs)
        | false ↦ filter-map test f xs
      ]

  pub find-map : {Y : Type 0} (test : Y → Bool) (f : X → Y) (xs : List X) →
      find test (map f xs) ≡ option_map f (find (λ x. test (f x)) xs)
  find-map test f [] = refl
  find-map test f (x ∷ xs) =
      elim (test (f x)) as
      (λ b. cond b (Some (f x)) (find test (map f xs))
      ≡ option_map f (cond b (Some x) (find (λ y. test (f y)) xs))) [
        | true ↦ refl
        | false ↦ find-map test f xs
      ]

  pub all_at : (P : X → Type 0) (xs : List X) (i : ℕ) (x : X) → AllByRecursion P xs → slice_get xs i ≡ Some x → P x
  all_at P [] i x all at = absurd (none-some x at)
  all_at P (y ∷ ys) zero x all at = subst P (same_Some y x at) all.0
  all_at P (y ∷ ys) (suc i) x all at = all_at P ys i x all.1 at

  -- what a filter leaves passes the test
  pub filter_passes : (test : X → Bool) (xs : List X) → AllByRecursion (λ x. test x ≡ true) (filter test xs)
  filter_passes test [] = tt
  filter_passes test (x ∷ xs) =
      elim (test x) as (λ b. test x ≡ b →
      AllByRecursion (λ y. test y ≡ true) (cond b (x ∷ filter test xs) (filter test xs))) [
        | true ↦ λ e. (e, filter_passes test xs)
        | false ↦ λ e. filter_passes test xs
      ] refl

  -- R holds of each element and every later one
  abbrev pub Pairwise : (X → X → Type 0) → List X → Type 0
  Pairwise R [] = Unit {0}
  Pairwise R (x ∷ xs) = AllByRecursion (R x) xs × Pairwise R xs

  pub pairwise_filter : (R : X → X → Type 0) (test : X → Bool) (xs : List X) → Pairwise R xs →
      Pairwise R (filter test xs)
  pairwise_filter R test [] pairs = tt
  pairwise_filter R test (x ∷ xs) pairs =
      elim (test x) as (λ b. Pairwise R (cond b (x ∷ filter test xs) (filter test xs))) [
        | true ↦ (all_filter (R x) test xs pairs.0, pairwise_filter R test xs pairs.1)
        | false ↦ pairwise_filter R test xs pairs.1
      ]

  pub pairwise_push : (R : X → X → Type 0) (xs : List X) (y : X) → Pairwise R xs → AllByRecursion (λ x. R x y) xs →
      Pairwise R (xs ++ y ∷ [])
  pairwise_push R [] y pairs last = (tt, tt)
  pairwise_push R (x ∷ xs) y pairs last = (all_push (R x) xs y pairs.0 last.0, pairwise_push R xs y pairs.1 last.1)
