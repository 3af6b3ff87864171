-- What a caller needs to append: that all local numbers are below one.
use Rattle.std.proofs.Common.{◌≡◌, ℕ, cond, List, [], ◌∷◌, sym, ◌∙◌, ap, inl, inr}
use Rattle.std.proofs.lemmas.Bool.{le-leb, lt-leb, cases_lt}
use Rattle.kom_types.specs.declared.texts.LocalText.{LocalText}
use Rattle.local_maps.specs.Pairs.{AllBelow, from_on}

-- there is no pair from the local number on
pub below_none : (local : ℕ) (pairs : List LocalText) → from_on local pairs ≡ [] → AllBelow local pairs
below_none local [] none = tt
below_none local (pair ∷ pairs) none = elim (cases_lt pair.local local) [
  | inl less ↦ (
    less,
    below_none local pairs
        (sym (ap (λ b. cond b (pair ∷ from_on local pairs) (from_on local pairs)) (lt-leb local pair.local less))
        ∙ none),
  )
  | inr more ↦
      let some : pair ∷ from_on local pairs ≡ [] =
      sym (ap (λ b. cond b (pair ∷ from_on local pairs) (from_on local pairs)) (le-leb local pair.local more)) ∙ none in
      cc
]
