-- Rows whose numbers rise by kind, as they are taken out and added.
use Rattle.std.proofs.Common.{◌≡◌, ℕ, ◌<◌, Bool, true, ap, List, [], ◌∷◌, ◌++◌, Option, Some, None, refl}
use Rattle.std.proofs.Common.{◌∙◌, sym, subst, inl, inr, arith}
use Rattle.std.specs.Prelude.{nat_le}
use Rattle.std.specs.List.{AllByRecursion, filter, find}
use Rattle.std.proofs.lemmas.Bool.{cases_Bool, cond_both, leb-true}
use Rattle.kom_model.proofs.whole.Counts.{all-kept, all-more}
use Rattle.kom_snapshot.specs.Listed.{RiseByKind}

module _ {X : Type 0} (alike_by : X → X → Bool) (number_of : X → ℕ) where
  pub rise-kept : (keep : X → Bool) (rows : List X) → RiseByKind alike_by number_of rows →
      RiseByKind alike_by number_of (filter keep rows)
  rise-kept keep [] rise = tt
  rise-kept keep (row ∷ rows) rise =
      let rest : RiseByKind alike_by number_of (filter keep rows) = rise-kept keep rows rise.1 in
      cond_both (keep row) (row ∷ filter keep rows) (filter keep rows) (RiseByKind alike_by number_of)
      (λ _. (all-kept _ keep rows rise.0, rest)) (λ _. rest)

  pub rise-more : (rows : List X) (given : X) → RiseByKind alike_by number_of rows →
      AllByRecursion (λ row. alike_by row given ≡ true → number_of row < number_of given) rows →
      RiseByKind alike_by number_of (rows ++ given ∷ [])
  rise-more [] given rise below = (tt, tt)
  rise-more (row ∷ rows) given rise below =
      (all-more _ rows given rise.0 below.0, rise-more rows given rise.1 below.1)

-- what holds of all holds of what is found
pub all-found : {X : Type 0} (P : X → Type 0) (test : X → Bool) (rows : List X) (row : X) → AllByRecursion P rows →
    find test rows ≡ Some row → P row
all-found P test [] row all found = absurd (cc)
all-found P test (first ∷ rows) row all found = elim (cases_Bool (test first)) [
  | inl here ↦
      let same : Some first ≡ Some row = rw here at found in
      let is : first ≡ row = cc in
      subst P is all.0
  | inr there ↦ all-found P test rows row all.1 (rw there at found)
]

-- a number that is not below the next one is above 0 where the next one is
pub next-begun : {R : Type 0} (next : R → ℕ) (found : Option R) (number : ℕ) →
    ((row : R) → found ≡ Some row → 0 < next row) →
    nat_le (elim found [ None ↦ 1 | Some row ↦ next row ]) number ≡ true → 0 < number
next-begun next None number begun more = let least = leb-true 1 number more in omega (arith, least)
next-begun next (Some row) number begun more =
    let least = leb-true (next row) number more in let first = begun row refl in omega (arith, least, first)

-- what is found passes the test
pub find-passes : {X : Type 0} (test : X → Bool) (rows : List X) (row : X) → find test rows ≡ Some row → test row ≡ true
find-passes test [] row found = absurd (cc)
find-passes test (first ∷ rows) row found = elim (cases_Bool (test first)) [
  | inl here ↦
      let same : Some first ≡ Some row = rw here at found in
      let is : first ≡ row = cc in
      ap test (sym is) ∙ here
  | inr there ↦ find-passes test rows row (rw there at found)
]
