-- The most bytes from a place under a limit and some of a plan's cuts, as cuts are added.
use Rattle.std.proofs.Common.{◌≡◌, ◌≤◌, ◌<◌, ◌+◌, ◌-◌, ◌⊎◌, inl, inr, ℕ, min, List, [], ◌∷◌, ◌++◌, take, length, get_or}
use Rattle.std.proofs.Common.{sym, subst, arith}
use Rattle.std.proofs.lemmas.List.{take_more}
use Rattle.std.proofs.lemmas.Bool.{cases_lt}
use Rattle.std.specs.List.{AllByRecursion}

-- no cut stands strictly inside so many bytes from a place
abbrev pub Passes : ℕ → ℕ → List ℕ → Type 0
Passes place count cuts = AllByRecursion (λ cut. (cut ≤ place) ⊎ (place + count ≤ cut)) cuts

-- the most bytes from a place under these cuts, where 0 sets no limit
abbrev pub IsMostOf : ℕ → ℕ → ℕ → List ℕ → ℕ → ℕ → Type 0
IsMostOf room left limit cuts place count =
    (count ≤ room) × (count ≤ left) × (((limit ≡ 0) ⊎ (count ≤ limit)) × Passes place count cuts)
    × ((more : ℕ) → more ≤ room → more ≤ left → ((limit ≡ 0) ⊎ (more ≤ limit)) × Passes place more cuts → more ≤ count)

-- fewer bytes pass no cut either
passes_fewer : (place count fewer : ℕ) (cuts : List ℕ) → fewer ≤ count → Passes place count cuts →
    Passes place fewer cuts
passes_fewer place count fewer [] le all = tt
passes_fewer place count fewer (cut ∷ cuts) le all = (
  elim all.0 [ inl before ↦ inl before | inr after ↦ inr (omega arith) ],
  passes_fewer place count fewer cuts le all.1,
)

passes_more : (place count cut : ℕ) (cuts : List ℕ) → Passes place count cuts → (cut ≤ place) ⊎ (place + count ≤ cut) →
    Passes place count (cuts ++ cut ∷ [])
passes_more place count cut [] all one = (one, tt)
passes_more place count cut (first ∷ cuts) all one = (all.0, passes_more place count cut cuts all.1 one)

passes_prefix : (place count cut : ℕ) (cuts : List ℕ) → Passes place count (cuts ++ cut ∷ []) → Passes place count cuts
passes_prefix place count cut [] all = tt
passes_prefix place count cut (first ∷ cuts) all = (all.0, passes_prefix place count cut cuts all.1)

passes_last : (place count cut : ℕ) (cuts : List ℕ) → Passes place count (cuts ++ cut ∷ []) →
    (cut ≤ place) ⊎ (place + count ≤ cut)
passes_last place count cut [] all = all.0
passes_last place count cut (first ∷ cuts) all = passes_last place count cut cuts all.1

limit_fewer : (limit count fewer : ℕ) → fewer ≤ count → (limit ≡ 0) ⊎ (count ≤ limit) → (limit ≡ 0) ⊎ (fewer ≤ limit)
limit_fewer limit count fewer le (inl none) = inl none
limit_fewer limit count fewer le (inr most) = inr (omega arith)

under_both : (more count place cut next : ℕ) → next ≡ min count (cut - place) → place < cut → more ≤ count →
    (cut ≤ place) ⊎ (place + more ≤ cut) → more ≤ next
under_both more count place cut next is lt le (inl before) = omega arith
under_both more count place cut next is lt le (inr after) = omega arith

-- where a cut stands after the place, the most bytes end there at the latest
most_to_cut : (room left limit : ℕ) (cuts : List ℕ) (place count cut next : ℕ) →
    IsMostOf room left limit cuts place count → place < cut → next ≡ min count (cut - place) →
    IsMostOf room left limit (cuts ++ cut ∷ []) place next
most_to_cut room left limit cuts place count cut next most lt is =
    let le : next ≤ count = omega arith in
    let in_room : count ≤ room = most.0 in
    let in_left : count ≤ left = most.1 in (
      omega arith,
      omega arith,
      (
        limit_fewer limit count next le most.2.0,
        passes_more place next cut cuts
            (passes_fewer place count next cuts le most.2.1) (inr (omega arith)),
      ),
      λ more r l keeps. under_both more count place cut next is lt
          (most.3 more r l (keeps.0, passes_prefix place more cut cuts keeps.1))
          (passes_last place more cut cuts keeps.1),
    )

-- a cut at or before the place changes nothing
most_past_cut : (room left limit : ℕ) (cuts : List ℕ) (place count cut : ℕ) →
    IsMostOf room left limit cuts place count → cut ≤ place → IsMostOf room left limit (cuts ++ cut ∷ []) place count
most_past_cut room left limit cuts place count cut most le = (
  most.0,
  most.1,
  (most.2.0, passes_more place count cut cuts most.2.1 (inl le)),
  λ more r l keeps. most.3 more r l
      (keeps.0, passes_prefix place more cut cuts keeps.1),
)

module _ (room left limit : ℕ) (cuts : List ℕ) (index place count next : ℕ) where
  -- with the next of the cuts, the most bytes end at it where it stands after the place, and else stay
  pub most_more : index < length cuts → IsMostOf room left limit (take index cuts) place count →
      (place < get_or cuts index 0 → next ≡ min count (get_or cuts index 0 - place))
      → (get_or cuts index 0 ≤ place → next ≡ count) → IsMostOf room left limit (take (index + 1) cuts) place next
  most_more within most after before =
      let cut : ℕ = get_or cuts index 0 in
      let first : List ℕ = take index cuts in
      let same : take (index + 1) cuts ≡ first ++ cut ∷ [] = take_more cuts index 0 within in
      subst (λ some. IsMostOf room left limit some place next) (sym same) (elim (cases_lt place cut) [
        | inl lt ↦ most_to_cut room left limit first place count cut next most lt (after lt)
        | inr le ↦ subst (λ n. IsMostOf room left limit (first ++ cut ∷ []) place n) (sym (before le))
            (most_past_cut room left limit first place count cut most le)
      ])
