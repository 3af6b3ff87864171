-- Which local numbers lie below one, told of the rows that have them.
use Rattle.std.proofs.Common.{◌≡◌, ℕ, ◌<◌, Bool, true, eqb, ltb, List, [], ◌∷◌}
use Rattle.std.proofs.Common.{map, filter}
use Rattle.std.specs.List.{AllByRecursion, fold}
use Rattle.std.proofs.lemmas.Bool.{cond_both}
use Rattle.kom_types.specs.declared.texts.LocalText.{LocalText}
use Rattle.kom_types.specs.declared.texts.Recipient.{Recipient}
use Rattle.kom_types.specs.declared.texts.TextRow.{TextRow}
use Rattle.kom_types.specs.tables.Texts.{locals_of, created_by, is_created_by, created_pair, by_local}
use Rattle.local_maps.specs.Pairs.{AllBelow}

-- ---- those of the rows that pass a test
module _ {X : Type 0} (test : X → Bool) (pair : X → LocalText) (bound : ℕ) where
  abbrev pub IsBelow : X → Type 0
  IsBelow x = test x ≡ true → (pair x).local < bound

  pub each_below : (xs : List X) → AllByRecursion IsBelow xs → AllBelow bound (map pair (filter test xs))
  each_below [] each = tt
  each_below (x ∷ xs) each =
      let rest = each_below xs each.1 in
      cond_both (test x) (x ∷ filter test xs) (filter test xs) (λ ys. AllBelow bound (map pair ys))
      (λ passes. (each.0 passes, rest)) (λ _. rest)

-- ---- those that are put in order
below_by_local : (bound : ℕ) (pair : LocalText) (pairs : List LocalText) → pair.local < bound → AllBelow bound pairs →
    AllBelow bound (by_local pair pairs)
below_by_local bound pair [] less below = (less, tt)
below_by_local bound pair (first ∷ pairs) less below =
    cond_both (ltb pair.local first.local) _ _ (AllBelow bound) (λ _. (less, below))
    (λ _. (below.0, below_by_local bound pair pairs less below.1))

abbrev placed : List LocalText → List LocalText → List LocalText
placed sorted pairs = fold (λ sorted pair. by_local pair sorted) sorted pairs

below_placed : (bound : ℕ) (sorted pairs : List LocalText) → AllBelow bound sorted → AllBelow bound pairs →
    AllBelow bound (placed sorted pairs)
below_placed bound sorted [] below below' = below
below_placed bound sorted (pair ∷ pairs) below below' =
    below_placed bound (by_local pair sorted) pairs (below_by_local bound pair sorted below'.0 below) below'.1

-- ---- the local numbers of a conference, and of a person
abbrev pub local_pair : Recipient → LocalText
local_pair row = record { local = row.local; text = row.text }

abbrev pub IsLocalBelow : ℕ → ℕ → Recipient → Type 0
IsLocalBelow conference bound row = eqb row.conference conference ≡ true → row.local < bound

pub locals_below : (conference bound : ℕ) (rows : List Recipient) →
    AllByRecursion (IsLocalBelow conference bound) rows → AllBelow bound (locals_of conference rows)
locals_below conference bound rows each =
    each_below (λ (row : Recipient). eqb row.conference conference) local_pair bound rows each

abbrev pub IsCreatedBelow : ℕ → ℕ → TextRow → Type 0
IsCreatedBelow person bound row = is_created_by person row ≡ true → row.created_local < bound

pub created_below : (person bound : ℕ) (rows : List TextRow) → AllByRecursion (IsCreatedBelow person bound) rows →
    AllBelow bound (created_by person rows)
created_below person bound rows each =
    below_placed bound [] (map created_pair (filter (is_created_by person) rows)) tt
    (each_below (is_created_by person) created_pair bound rows each)
