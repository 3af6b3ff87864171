-- The effects that add something to a text, by their places.
use Rattle.std.proofs.Common.{◌≡◌, ℕ, Bool, true, false, cond, List, [], ◌∷◌, length, filter}
use Rattle.std.proofs.Common.{Option, Some, None, Bor, refl, sym, ap, ◌∙◌, suc, zero, inl, inr}
use Rattle.std.specs.List.{filter_map, slice_get, find}
use Rattle.std.specs.Option.{option_copied}
use Rattle.std.proofs.lemmas.Bool.{cases_Bool}
use Rattle.kom_types.specs.declared.effects.Effect.{Effect}
use Rattle.async_fanout.specs.Added.{passes}

module _ {R : Type 0} (added : Effect → Option R) (test : R → Bool) where
  -- what passing effects add
  abbrev pub rows_added : List Effect → List R
  rows_added effects = filter test (filter_map added effects)

  abbrev pub passing : List Effect → List Effect
  passing effects = filter (passes added test) effects

  fails : (effect : Effect) → added effect ≡ None → passes added test effect ≡ false
  fails effect is = ap (λ found. elim found [ None ↦ false | Some row ↦ test row ]) is

  passes-as : (effect : Effect) (row : R) → added effect ≡ Some row → passes added test effect ≡ test row
  passes-as effect row is = ap (λ found. elim found [ None ↦ false | Some row ↦ test row ]) is

  counted-one : (effect : Effect) (effects : List Effect) (row : R) (b : Bool) →
      length (passing effects) ≡ length (rows_added effects) →
      length (cond b (effect ∷ passing effects) (passing effects))
      ≡ length (cond b (row ∷ rows_added effects) (rows_added effects))
  counted-one effect effects row true rest = ap suc rest
  counted-one effect effects row false rest = rest

  counted : (effect : Effect) (effects : List Effect) (found : Option R) → added effect ≡ found →
      length (passing effects) ≡ length (rows_added effects) →
      length (passing (effect ∷ effects)) ≡ length (rows_added (effect ∷ effects))
  counted effect effects None is rest = rw (fails effect is, is) rest
  counted effect effects (Some row) is rest =
      rw (passes-as effect row is, is) (counted-one effect effects row (test row) rest)

  -- as many effects pass as rows are added that do
  pub count-passing : (effects : List Effect) → length (passing effects) ≡ length (rows_added effects)
  count-passing [] = refl
  count-passing (effect ∷ effects) =
      counted effect effects (added effect) refl (count-passing effects)

  -- what the effect adds that may stand at a place
  abbrev pub added_at : Option Effect → Option R
  added_at found = elim found [ None ↦ None | Some effect ↦ added effect ]

  passed : (effect : Effect) (effects : List Effect) (place : ℕ) (row : R) (b : Bool) → added effect ≡ Some row →
      ((place : ℕ) → added_at (slice_get (passing effects) place) ≡ slice_get (rows_added effects) place) →
      added_at (slice_get (cond b (effect ∷ passing effects) (passing effects)) place)
      ≡ slice_get (cond b (row ∷ rows_added effects) (rows_added effects)) place
  passed effect effects zero row true is rest = is
  passed effect effects (suc place) row true is rest = rest place
  passed effect effects place row false is rest = rest place

  -- of the first effect, and the others
  first : (effect : Effect) (effects : List Effect) (place : ℕ) (found : Option R) → added effect ≡ found →
      ((place : ℕ) → added_at (slice_get (passing effects) place) ≡ slice_get (rows_added effects) place) →
      added_at (slice_get (passing (effect ∷ effects)) place) ≡ slice_get (rows_added (effect ∷ effects)) place
  first effect effects place None is rest = rw (fails effect is, is) (rest place)
  first effect effects place (Some row) is rest =
      rw (passes-as effect row is, is) (passed effect effects place row (test row) is rest)

  pub nth-passing : (effects : List Effect) (place : ℕ) →
      added_at (slice_get (passing effects) place) ≡ slice_get (rows_added effects) place
  nth-passing [] zero = refl
  nth-passing [] (suc place) = refl
  nth-passing (effect ∷ effects) place =
      first effect effects place (added effect) refl (nth-passing effects)

  -- what is found at a place among passing effects
  pub found-none : (effects : List Effect) (place : ℕ) (got : Option (Bor Effect)) → got ≡ None →
      option_copied got ≡ slice_get (passing effects) place → None ≡ slice_get (rows_added effects) place
  found-none effects place got none is =
      sym (ap (λ one. added_at (option_copied one)) none) ∙ ap added_at is ∙ nth-passing effects place

  pub found-some : (effects : List Effect) (place : ℕ) (got : Option (Bor Effect)) (effect : Bor Effect) →
      got ≡ Some effect → option_copied got ≡ slice_get (passing effects) place →
      added effect.now ≡ slice_get (rows_added effects) place
  found-some effects place got effect some is =
      sym (ap (λ one. added_at (option_copied one)) some) ∙ ap added_at is ∙ nth-passing effects place

-- the first that passes a test
pub find-first : {A : Type 0} (test : A → Bool) (xs : List A) → slice_get (filter test xs) 0 ≡ find test xs
find-first test [] = refl
find-first test (x ∷ xs) =
    elim (cases_Bool (test x)) [
      | inl passed ↦ rw passed refl
      | inr failed ↦ rw failed (find-first test xs)
    ]
