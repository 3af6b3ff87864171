-- Where a number stands in a list, and the list without it.
use Rattle.std.proofs.Common.{◌≡◌, ℕ, suc, ◌<◌, true, false, ◌||◌, eqb, ltb, nat_eq, List, [], ◌∷◌, length, remove}
use Rattle.std.proofs.Common.{position, Some, inl, inr, sym, ◌∙◌, ap, refl, lt-ltb, one-add, arith}
use Rattle.std.specs.List.{position_or_len}
use Rattle.std.specs.Set.{remove_key, is_member}
use Rattle.std.proofs.lemmas.Bool.{cases_Bool, false≢true}

pub place_here : (c x : ℕ) (xs : List ℕ) → eqb c x ≡ true → position_or_len (nat_eq c) (x ∷ xs) ≡ 0
place_here c x xs is = rw is refl

pub place_there : (c x : ℕ) (xs : List ℕ) → eqb c x ≡ false →
    position_or_len (nat_eq c) (x ∷ xs) ≡ suc (position_or_len (nat_eq c) xs)
place_there c x xs other = rw other (one-add (position_or_len (nat_eq c) xs))

pub later : (c x : ℕ) (xs : List ℕ) → eqb c x ≡ false → is_member nat_eq (x ∷ xs) c ≡ true →
    is_member nat_eq xs c ≡ true
later c x xs other there = ap (λ b. b || is_member nat_eq xs c) (sym other) ∙ there

pub place_within : (c : ℕ) (xs : List ℕ) → is_member nat_eq xs c ≡ true →
    position_or_len (nat_eq c) xs < length xs
place_within c [] there = absurd (false≢true there)
place_within c (x ∷ xs) there = elim (cases_Bool (eqb c x)) [
  | inl is ↦ omega (arith, place_here c x xs is)
  | inr other ↦ omega (arith, place_there c x xs other, place_within c xs (later c x xs other there))
]

pub position-place : (c : ℕ) (xs : List ℕ) → is_member nat_eq xs c ≡ true →
    position (nat_eq c) xs ≡ Some (position_or_len (nat_eq c) xs)
position-place c xs there = let within : ltb (position_or_len (nat_eq c) xs) (length xs) ≡ true =
    lt-ltb _ _ (place_within c xs there) in rw within refl

pub remove_here : (c x : ℕ) (xs : List ℕ) → eqb c x ≡ true → remove_key (nat_eq c) (x ∷ xs) ≡ xs
remove_here c x xs is = rw is refl

pub remove_there : (c x : ℕ) (xs : List ℕ) → eqb c x ≡ false →
    remove_key (nat_eq c) (x ∷ xs) ≡ x ∷ remove_key (nat_eq c) xs
remove_there c x xs other = rw other refl

pub remove-place : (c : ℕ) (xs : List ℕ) → is_member nat_eq xs c ≡ true →
    remove xs (position_or_len (nat_eq c) xs) ≡ remove_key (nat_eq c) xs
remove-place c [] there = absurd (false≢true there)
remove-place c (x ∷ xs) there = elim (cases_Bool (eqb c x)) [
  | inl is ↦ ap (remove (x ∷ xs)) (place_here c x xs is) ∙ sym (remove_here c x xs is)
  | inr other ↦
      ap (remove (x ∷ xs)) (place_there c x xs other) ∙ ap (λ l. x ∷ l) (remove-place c xs (later c x xs other there))
      ∙ sym (remove_there c x xs other)
]
