-- What a caller needs to append: that all pairs are below a local, and stay so.
--     below_none        there is no pair from the local on
--     below_push        a pair of that local was added
--     below_without     a pair was taken out
use Rattle.std.proofs.Common.{◌≡◌, ℕ, ◌+◌, ◌<◌, ◌==◌, true, false, cond, not, List, [], ◌∷◌, ◌++◌}
use Rattle.std.proofs.Common.{sym, ◌∙◌, arith, inl, inr}
use Rattle.std.proofs.lemmas.Bool.{le-leb, lt-leb, cases_lt}
use Rattle.map_chain.specs.Pairs.{Pair, AllBelow, from_on, without}
use Rattle.map_chain.proofs.Filters.{kept, left_out}

pub below_none : (n : ℕ) (ps : List Pair) → from_on n ps ≡ [] → AllBelow n ps
below_none n [] e = tt
below_none n (p ∷ ps) e = elim (cases_lt p.0 n) [
  | inl less ↦ (less, below_none n ps (sym (left_out _ p (from_on n ps) (lt-leb n p.0 less)) ∙ e))
  | inr more ↦
      let some = sym (kept _ p (from_on n ps) (le-leb n p.0 more)) ∙ e in
      let none : p ∷ from_on n ps ≡ [] = some in cc
]

pub below_push : (n text : ℕ) (ps : List Pair) → AllBelow n ps → AllBelow (n + 1) (ps ++ (n, text) ∷ [])
below_push n text [] below = (omega arith, tt)
below_push n text (p ∷ ps) below =
    let less : p.0 < n = below.0 in (omega arith, below_push n text ps below.1)

pub below_without : (n local : ℕ) (ps : List Pair) → AllBelow n ps → AllBelow n (without local ps)
below_without n local [] below = tt
below_without n local (p ∷ ps) below =
    let others = below_without n local ps below.1 in
    elim (not (p.0 == local)) as (λ b. AllBelow n (cond b (p ∷ without local ps) (without local ps))) [
      | true ↦ (below.0, others)
      | false ↦ others
    ]
