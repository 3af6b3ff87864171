-- The block that a local belongs to.
--     pairs-cut, pairs-take      the pairs up to a block, its own, and those after it
--     AllBelow-*, AllFrom-*, rising-*      over `++`
--     below_all                  all up to a block are below n
use Rattle.std.proofs.Common.{◌≡◌, ℕ, zero, suc, ◌<◌, ◌≤◌, List, [], ◌∷◌, ◌++◌, length, take, drop, slice_get, Some}
use Rattle.std.proofs.Common.{refl, sym, ap, subst, ◌∙◌, arith, append_assoc, append-nil}
use denote.RawPtr.{Ptr}
use Rattle.map_chain.specs.Pairs.{Pair, AllBelow, AllFrom, IsRising, highest}
use Rattle.map_chain.specs.Blocks.{PlacedBlocks, pairs_of, AllFilled}
use Rattle.map_chain.proofs.Lists.{AllFrom-weaken}

pub pairs-cut : (bs : PlacedBlocks) (i : ℕ) (p : Ptr) (ps : List Pair) → slice_get bs i ≡ Some (p, ps)
    → pairs_of bs ≡ pairs_of (take i bs) ++ (ps ++ pairs_of (drop (suc i) bs))
pairs-cut [] i p ps e = cc
pairs-cut (b ∷ bs) zero p ps e = let at : b ≡ (p, ps) = cc in ap (λ (c : Ptr × List Pair). c.1 ++ pairs_of bs) at
pairs-cut (b ∷ bs) (suc i) p ps e = ap (λ (l : List Pair). b.1 ++ l) (pairs-cut bs i p ps e)
    ∙ sym (append_assoc b.1 (pairs_of (take i bs)) (ps ++ pairs_of (drop (suc i) bs)))

pub pairs-take : (bs : PlacedBlocks) (i : ℕ) (p : Ptr) (ps : List Pair) → slice_get bs i ≡ Some (p, ps)
    → pairs_of (take (suc i) bs) ≡ pairs_of (take i bs) ++ ps
pairs-take [] i p ps e = cc
pairs-take (b ∷ bs) zero p ps e = let at : b ≡ (p, ps) = cc in append-nil b.1 ∙ ap (λ (c : Ptr × List Pair). c.1) at
pairs-take (b ∷ bs) (suc i) p ps e = ap (λ (l : List Pair). b.1 ++ l) (pairs-take bs i p ps e)
    ∙ sym (append_assoc b.1 (pairs_of (take i bs)) ps)

pub pairs-append : (bs cs : PlacedBlocks) → pairs_of (bs ++ cs) ≡ pairs_of bs ++ pairs_of cs
pairs-append [] cs = refl
pairs-append (b ∷ bs) cs = ap (λ (l : List Pair). b.1 ++ l) (pairs-append bs cs)
    ∙ sym (append_assoc b.1 (pairs_of bs) (pairs_of cs))

pub AllBelow-append : (n : ℕ) (xs ys : List Pair) → AllBelow n xs → AllBelow n ys → AllBelow n (xs ++ ys)
AllBelow-append n [] ys a b = b
AllBelow-append n (x ∷ xs) ys a b = (a.0, AllBelow-append n xs ys a.1 b)

pub AllFrom-append : (n : ℕ) (xs ys : List Pair) → AllFrom n xs → AllFrom n ys → AllFrom n (xs ++ ys)
AllFrom-append n [] ys a b = b
AllFrom-append n (x ∷ xs) ys a b = (a.0, AllFrom-append n xs ys a.1 b)

pub AllFrom-left : (n : ℕ) (xs ys : List Pair) → AllFrom n (xs ++ ys) → AllFrom n xs
AllFrom-left n [] ys a = tt
AllFrom-left n (x ∷ xs) ys a = (a.0, AllFrom-left n xs ys a.1)

pub AllFrom-right : (n : ℕ) (xs ys : List Pair) → AllFrom n (xs ++ ys) → AllFrom n ys
AllFrom-right n [] ys a = a
AllFrom-right n (x ∷ xs) ys a = AllFrom-right n xs ys a.1

pub rising-left : (xs ys : List Pair) → IsRising (xs ++ ys) → IsRising xs
rising-left [] ys r = tt
rising-left (x ∷ xs) ys r = (AllFrom-left (suc x.0) xs ys r.0, rising-left xs ys r.1)

pub rising-right : (xs ys : List Pair) → IsRising (xs ++ ys) → IsRising ys
rising-right [] ys r = r
rising-right (x ∷ xs) ys r = rising-right xs ys r.1

pub rising_to_highest : (n : ℕ) (ps : List Pair) → IsRising ps → highest ps < n → AllBelow n ps
rising_to_highest n [] r h = tt
rising_to_highest n (p ∷ []) r h = (h, tt)
rising_to_highest n (p ∷ q ∷ ps) r h =
    let rest = rising_to_highest n (q ∷ ps) r.1 h in let first : suc p.0 ≤ q.0 = r.0.0 in
    let second : q.0 < n = rest.0 in (omega arith, rest)

-- what comes before pairs that are below n is below n
pub rising_before : (n : ℕ) (xs ys : List Pair) → IsRising (xs ++ ys) → 0 < length ys → AllBelow n ys → AllBelow n xs
rising_before n [] ys r some b = tt
rising_before n (x ∷ xs) [] r some b = absurd (omega arith)
rising_before n (x ∷ xs) (y ∷ ys) r some b =
    let next = AllFrom-right (suc x.0) xs (y ∷ ys) r.0 in let first : suc x.0 ≤ y.0 = next.0 in
    let last : y.0 < n = b.0 in (omega arith, rising_before n xs (y ∷ ys) r.1 some b)

-- what comes after pairs that are from n on is from n on
pub rising_after : (n : ℕ) (xs ys : List Pair) → IsRising (xs ++ ys) → 0 < length xs → AllFrom n xs → AllFrom n ys
rising_after n [] ys r some a = absurd (omega arith)
rising_after n (x ∷ xs) ys r some a =
    let low : n ≤ x.0 = a.0 in AllFrom-weaken n (suc x.0) ys (omega arith) (AllFrom-right (suc x.0) xs ys r.0)

pub filled_at : (bs : PlacedBlocks) (i : ℕ) (p : Ptr) (ps : List Pair) → AllFilled bs → slice_get bs i ≡ Some (p, ps)
    → (0 < length ps) × (length ps ≤ 64)
filled_at [] i p ps f e = cc
filled_at (b ∷ bs) zero p ps f e =
    let at : b ≡ (p, ps) = cc in subst (λ (c : Ptr × List Pair). (0 < length c.1) × (length c.1 ≤ 64)) at (f.0, f.1)
filled_at (b ∷ bs) (suc i) p ps f e = filled_at bs i p ps f.2 e

module _ (n : ℕ) (bs : PlacedBlocks) (i : ℕ) (p : Ptr) (ps : List Pair) (at : slice_get bs i ≡ Some (p, ps))
    (rising : IsRising (pairs_of bs)) where
  pub block_rising : IsRising ps
  block_rising = rising-left ps (pairs_of (drop (suc i) bs))
      (rising-right (pairs_of (take i bs)) (ps ++ pairs_of (drop (suc i) bs))
      (subst IsRising (pairs-cut bs i p ps at) rising))

  pub prefix_rising : IsRising (pairs_of (take i bs) ++ ps)
  prefix_rising =
      rising-left (pairs_of (take i bs) ++ ps) (pairs_of (drop (suc i) bs))
      (subst IsRising (pairs-cut bs i p ps at
      ∙ sym (append_assoc (pairs_of (take i bs)) ps (pairs_of (drop (suc i) bs)))) rising)

  pub suffix_rising : IsRising (ps ++ pairs_of (drop (suc i) bs))
  suffix_rising = rising-right (pairs_of (take i bs)) (ps ++ pairs_of (drop (suc i) bs))
      (subst IsRising (pairs-cut bs i p ps at) rising)

  -- a block that ends below n, and so all before it
  pub below_all : AllFilled bs → highest ps < n → AllBelow n (pairs_of (take (suc i) bs))
  below_all f h =
      let own = rising_to_highest n ps block_rising h in
      subst (AllBelow n) (sym (pairs-take bs i p ps at))
      (AllBelow-append n (pairs_of (take i bs)) ps
      (rising_before n (pairs_of (take i bs)) ps prefix_rising (filled_at bs i p ps f at).0 own) own)
