-- Filters of pairs by their locals, where the pairs are cut at a local.
--     Cut                      pairs below n, and then pairs from n on
--     cut_at                   the cut that a search finds
--     from-cut, below-cut      the filters
--     text-none, text-found, text-absent, without-found, without-absent      one local
use Rattle.std.proofs.Common.{◌≡◌, ℕ, zero, suc, ◌<◌, ◌≤◌, Bool, true, false, cond, not, List, [], ◌∷◌, ◌++◌, length}
use Rattle.std.proofs.Common.{take, drop, slice_get, Some, None, refl, sym, ap, subst, ◌∙◌, arith, inl, inr}
use Rattle.std.proofs.Common.{append_assoc, append-nil}
use Rattle.std.proofs.lemmas.List.{take-append-drop, take_all, length-drop}
use Rattle.std.proofs.lemmas.List.Elements.{filter-append}
use Rattle.std.proofs.lemmas.Bool.{lt-ltb, le-ltb, le-leb, lt-leb, eq-eqb, ne_eqb, cases_lt}
use denote.RawPtr.{Ptr}
use Rattle.map_chain.specs.Pairs.{Pair, AllBelow, AllFrom, IsRising, IsPlace, highest, text_of, without, from_on, below}
use Rattle.map_chain.specs.Blocks.{PlacedBlocks, pairs_of, AllFilled, IsSought}
use Rattle.map_chain.proofs.Linking.{one_block}
use Rattle.map_chain.proofs.Lists.{AllFrom-weaken}
use Rattle.map_chain.proofs.Seeking.{AllBelow-append, AllFrom-append, rising-right, rising_after, pairs-cut}
use Rattle.map_chain.proofs.Seeking.{suffix_rising, filled_at}

-- a test that each passes, or none
pub kept : (b : Bool) (x : Pair) (l : List Pair) → b ≡ true → cond b (x ∷ l) l ≡ x ∷ l
kept b x l e = ap (λ c. cond c (x ∷ l) l) e

pub left_out : (b : Bool) (x : Pair) (l : List Pair) → b ≡ false → cond b (x ∷ l) l ≡ l
left_out b x l e = ap (λ c. cond c (x ∷ l) l) e

below-low : (n : ℕ) (ps : List Pair) → AllBelow n ps → below n ps ≡ ps
below-low n [] a = refl
below-low n (p ∷ ps) a = kept _ p (below n ps) (lt-ltb p.0 n a.0) ∙ ap (λ (l : List Pair). p ∷ l) (below-low n ps a.1)

below-high : (n : ℕ) (ps : List Pair) → AllFrom n ps → below n ps ≡ []
below-high n [] a = refl
below-high n (p ∷ ps) a = left_out _ p (below n ps) (le-ltb p.0 n a.0) ∙ below-high n ps a.1

from-low : (n : ℕ) (ps : List Pair) → AllBelow n ps → from_on n ps ≡ []
from-low n [] a = refl
from-low n (p ∷ ps) a = left_out _ p (from_on n ps) (lt-leb n p.0 a.0) ∙ from-low n ps a.1

from-high : (n : ℕ) (ps : List Pair) → AllFrom n ps → from_on n ps ≡ ps
from-high n [] a = refl
from-high n (p ∷ ps) a = kept _ p (from_on n ps) (le-leb n p.0 a.0) ∙ ap (λ (l : List Pair). p ∷ l) (from-high n ps a.1)

text-low : (n : ℕ) (xs ys : List Pair) → AllBelow n xs → text_of n (xs ++ ys) ≡ text_of n ys
text-low n [] ys a = refl
text-low n (x ∷ xs) ys a =
    let lt : x.0 < n = a.0 in
    ap (λ b. cond b (Some x.1) (text_of n (xs ++ ys))) (ne_eqb x.0 n (λ e. omega arith)) ∙ text-low n xs ys a.1

text-high : (n : ℕ) (ys : List Pair) → AllFrom (suc n) ys → text_of n ys ≡ None
text-high n [] a = refl
text-high n (y ∷ ys) a =
    let gt : suc n ≤ y.0 = a.0 in
    ap (λ b. cond b (Some y.1) (text_of n ys)) (ne_eqb y.0 n (λ e. omega arith)) ∙ text-high n ys a.1

without-low : (n : ℕ) (ps : List Pair) → AllBelow n ps → without n ps ≡ ps
without-low n [] a = refl
without-low n (p ∷ ps) a =
    let lt : p.0 < n = a.0 in
    kept _ p (without n ps) (ap not (ne_eqb p.0 n (λ e. omega arith)))
    ∙ ap (λ (l : List Pair). p ∷ l) (without-low n ps a.1)

without-high : (n : ℕ) (ps : List Pair) → AllFrom (suc n) ps → without n ps ≡ ps
without-high n [] a = refl
without-high n (p ∷ ps) a =
    let gt : suc n ≤ p.0 = a.0 in
    kept _ p (without n ps) (ap not (ne_eqb p.0 n (λ e. omega arith)))
    ∙ ap (λ (l : List Pair). p ∷ l) (without-high n ps a.1)

-- the pairs below n, and then those from n on
pub record Cut (n : ℕ) (all low high : List Pair) : Type 0 where
  pub is : all ≡ low ++ high
  pub lows : AllBelow n low
  pub highs : AllFrom n high

pub from-cut : (n : ℕ) (all low high : List Pair) → Cut n all low high → from_on n all ≡ high
from-cut n all low high c = ap (from_on n) c.is ∙ filter-append _ low high
    ∙ (λ i. from-low n low c.lows i ++ from-high n high c.highs i)

pub below-cut : (n : ℕ) (all low high : List Pair) → Cut n all low high → below n all ≡ low
below-cut n all low high c = ap (below n) c.is ∙ filter-append _ low high
    ∙ (λ i. below-low n low c.lows i ++ below-high n high c.highs i) ∙ append-nil low

pub all-low : (n : ℕ) (all : List Pair) → AllBelow n all → Cut n all all []
all-low n all a = record { is = sym (append-nil all); lows = a; highs = tt }

pub text-none : (n : ℕ) (all : List Pair) → AllBelow n all → text_of n all ≡ None
text-none n all a = ap (text_of n) (sym (append-nil all)) ∙ text-low n all [] a

pub without-none : (n : ℕ) (all : List Pair) → AllBelow n all → without n all ≡ all
without-none = without-low

module _ (n : ℕ) (all low : List Pair) (q : Pair) (high : List Pair) (c : Cut n all low (q ∷ high))
    (r : IsRising all) where
  after : AllFrom (suc q.0) high
  after = (rising-right low (q ∷ high) (subst IsRising c.is r)).0

  pub text-found : q.0 ≡ n → text_of n all ≡ Some q.1
  text-found e = ap (text_of n) c.is ∙ text-low n low (q ∷ high) c.lows
      ∙ ap (λ b. cond b (Some q.1) (text_of n high)) (eq-eqb q.0 n e)

  pub without-found : q.0 ≡ n → without n all ≡ low ++ high
  without-found e =
      ap (without n) c.is ∙ filter-append _ low (q ∷ high)
      ∙ (λ i. without-low n low c.lows i ++
      (left_out _ q (without n high) (ap not (eq-eqb q.0 n e))
      ∙ without-high n high (subst (λ k. AllFrom (suc k) high) e after)) i)

  above : (q.0 ≡ n → ⊥) → AllFrom (suc n) (q ∷ high)
  above ne = let le : n ≤ q.0 = c.highs.0 in (omega arith, AllFrom-weaken (suc n) (suc q.0) high (omega arith) after)

  pub text-absent : (q.0 ≡ n → ⊥) → text_of n all ≡ None
  text-absent ne = ap (text_of n) c.is ∙ text-low n low (q ∷ high) c.lows ∙ text-high n (q ∷ high) (above ne)

  pub without-absent : (q.0 ≡ n → ⊥) → without n all ≡ all
  without-absent ne = ap (without n) c.is ∙ filter-append _ low (q ∷ high)
      ∙ (λ i. without-low n low c.lows i ++ without-high n (q ∷ high) (above ne) i) ∙ sym c.is

highest-low : (n : ℕ) (ps : List Pair) → AllBelow n ps → 0 < length ps → highest ps < n
highest-low n [] a some = absurd (omega arith)
highest-low n (p ∷ []) a some = a.0
highest-low n (p ∷ q ∷ ps) a some = highest-low n (q ∷ ps) a.1 (omega arith)

-- a block that reaches n has a pair at the place of n
pub place_within : (n : ℕ) (ps : List Pair) (k : ℕ) → IsPlace n ps k → n ≤ highest ps → 0 < length ps → k < length ps
place_within n ps k p h some = elim (cases_lt k (length ps)) [
  | inl less ↦ less
  | inr more ↦ let low = highest-low n ps (subst (AllBelow n) (take_all k ps more) p.1) some in absurd (omega arith)
]

pub drop-get : (ps : List Pair) (k : ℕ) (q : Pair) → slice_get ps k ≡ Some q → drop k ps ≡ q ∷ drop (suc k) ps
drop-get [] k q e = cc
drop-get (p ∷ ps) zero q e = let at : p ≡ q = cc in ap (λ (r : Pair). r ∷ ps) at
drop-get (p ∷ ps) (suc k) q e = drop-get ps k q e

-- the cut at the place that a search finds
pub cut_at : (n : ℕ) (bs : PlacedBlocks) (i : ℕ) (p : Ptr) (s : IsSought n bs i p) (k : ℕ) → IsPlace n s.pairs k
    → IsRising (pairs_of bs) → AllFilled bs
    → Cut n (pairs_of bs) (pairs_of (take i bs) ++ take k s.pairs) (drop k s.pairs ++ pairs_of (drop (suc i) bs))
cut_at n bs i p s k place r f =
    let ps = s.pairs in let A = pairs_of (take i bs) in let C = pairs_of (drop (suc i) bs) in
    let some = place_within n ps k place s.reached (filled_at bs i p ps f s.is).0 in
    let whole : ps ≡ take k ps ++ drop k ps = sym (take-append-drop k ps) in
    let two : ps ++ C ≡ take k ps ++ (drop k ps ++ C) = ap (λ (l : List Pair). l ++ C) whole
    ∙ append_assoc (take k ps) (drop k ps) C in
    let rising : IsRising (drop k ps ++ C) = rising-right (take k ps) (drop k ps ++ C)
    (subst IsRising two (suffix_rising n bs i p ps s.is r)) in
    let left = length-drop k ps in
    record {
      is = pairs-cut bs i p ps s.is ∙ ap (λ (l : List Pair). A ++ l) two
          ∙ sym (append_assoc A (take k ps) (drop k ps ++ C));
      lows = AllBelow-append n A (take k ps) s.before place.1;
      highs = AllFrom-append n (drop k ps) C place.2 (rising_after n (drop k ps) C rising (omega arith) place.2);
    }

-- the same, with the pair at the place
pub cut_pair : (n : ℕ) (bs : PlacedBlocks) (i : ℕ) (p : Ptr) (s : IsSought n bs i p) (k : ℕ) (q : Pair) →
    IsPlace n s.pairs k
    → slice_get s.pairs k ≡ Some q → IsRising (pairs_of bs) → AllFilled bs
    → Cut n (pairs_of bs) (pairs_of (take i bs) ++ take k s.pairs)
    (q ∷ (drop (suc k) s.pairs ++ pairs_of (drop (suc i) bs)))
cut_pair n bs i p s k q place e r f =
    subst (λ (l : List Pair). Cut n (pairs_of bs) (pairs_of (take i bs) ++ take k s.pairs)
    (l ++ pairs_of (drop (suc i) bs))) (drop-get s.pairs k q e) (cut_at n bs i p s k place r f)

-- what the block sought reaches, by any name
pub reached_by : (n : ℕ) (bs : PlacedBlocks) (i : ℕ) (p : Ptr) (ps : List Pair) → IsSought n bs i p
    → slice_get bs i ≡ Some (p, ps) → n ≤ highest ps
reached_by n bs i p ps s e = subst (λ (l : List Pair). n ≤ highest l) (one_block bs i p p s.pairs ps s.is e).1 s.reached

pub within_block : (n : ℕ) (bs : PlacedBlocks) (i : ℕ) (p : Ptr) (ps : List Pair) (k : ℕ) → IsSought n bs i p
    → slice_get bs i ≡ Some (p, ps) → IsPlace n ps k → AllFilled bs → k < length ps
within_block n bs i p ps k s e place f = place_within n ps k place (reached_by n bs i p ps s e)
    (filled_at bs i p ps f e).0

-- the cut at the pair that a search finds, by the names of the code
pub found_cut : (n : ℕ) (bs : PlacedBlocks) (i : ℕ) (p : Ptr) (ps : List Pair) (k : ℕ) (q : Pair) → IsSought n bs i p
    → slice_get bs i ≡ Some (p, ps) → IsPlace n ps k → slice_get ps k ≡ Some q → IsRising (pairs_of bs)
    → AllFilled bs → Cut n (pairs_of bs) (pairs_of (take i bs) ++ take k ps)
    (q ∷ (drop (suc k) ps ++ pairs_of (drop (suc i) bs)))
found_cut n bs i p ps k q s e place f r filled =
    cut_pair n bs i p (record {
      pairs = ps;
      is = e;
      before = s.before;
      reached = reached_by n bs i p ps s e;
    }) k q place f r filled

-- the same, at any place
pub place_cut : (n : ℕ) (bs : PlacedBlocks) (i : ℕ) (p : Ptr) (ps : List Pair) (k : ℕ) → IsSought n bs i p
    → slice_get bs i ≡ Some (p, ps) → IsPlace n ps k → IsRising (pairs_of bs)
    → AllFilled bs → Cut n (pairs_of bs) (pairs_of (take i bs) ++ take k ps) (drop k ps ++ pairs_of (drop (suc i) bs))
place_cut n bs i p ps k s e place r filled =
    cut_at n bs i p (record {
      pairs = ps;
      is = e;
      before = s.before;
      reached = reached_by n bs i p ps s e;
    }) k place r filled
