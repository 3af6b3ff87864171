-- What is left of a walk, step by step.
use Rattle.std.proofs.Common.{◌≡◌, ℕ, zero, suc, ◌-◌, ◌<◌, ◌≤◌, List, [], ◌∷◌, ◌++◌, length, take, drop, reverse}
use Rattle.std.proofs.Common.{slice_get, Some, refl, sym, ap, subst, ◌∙◌, arith, append_assoc, append-nil}
use Rattle.std.proofs.lemmas.List.{take_all, drop_all, reverse-append}
use denote.RawPtr.{Ptr}
use Rattle.map_chain.specs.Pairs.{Pair}
use Rattle.map_chain.specs.Blocks.{PlacedBlocks, pairs_of, IsWhole}
use Rattle.map_chain.specs.Walks.{onward, up_to}
use Rattle.map_chain.proofs.Filters.{drop-get}
use Rattle.map_chain.proofs.Seeking.{pairs-take}

pub onward-cut : (bs : PlacedBlocks) (i k : ℕ) (p : Ptr) (ps : List Pair) → slice_get bs i ≡ Some (p, ps)
    → onward bs i k ≡ drop k ps ++ pairs_of (drop (suc i) bs)
onward-cut [] i k p ps e = cc
onward-cut (b ∷ bs) zero k p ps e =
    let at : b ≡ (p, ps) = cc in ap (λ (c : Ptr × List Pair). drop k c.1 ++ pairs_of bs) at
onward-cut (b ∷ bs) (suc i) k p ps e = onward-cut bs i k p ps e

pub onward-start : (bs : PlacedBlocks) (i : ℕ) → onward bs i 0 ≡ pairs_of (drop i bs)
onward-start [] zero = refl
onward-start [] (suc i) = refl
onward-start (b ∷ bs) zero = refl
onward-start (b ∷ bs) (suc i) = onward-start bs i

pub onward-end : (bs : PlacedBlocks) (i k : ℕ) → length bs ≤ i → onward bs i k ≡ []
onward-end [] i k le = refl
onward-end (b ∷ bs) zero k le = absurd (omega arith)
onward-end (b ∷ bs) (suc i) k le = onward-end bs i k (omega arith)

-- the next pair up, within a block and at its end
pub onward-step : (bs : PlacedBlocks) (i k : ℕ) (p : Ptr) (ps : List Pair) (q : Pair) → slice_get bs i ≡ Some (p, ps)
    → slice_get ps k ≡ Some q → onward bs i k ≡ q ∷ onward bs i (suc k)
onward-step bs i k p ps q e f =
    onward-cut bs i k p ps e ∙ ap (λ (l : List Pair). l ++ pairs_of (drop (suc i) bs)) (drop-get ps k q f)
    ∙ sym (ap (λ (l : List Pair). q ∷ l) (onward-cut bs i (suc k) p ps e))

pub onward-over : (bs : PlacedBlocks) (i k : ℕ) (p : Ptr) (ps : List Pair) → slice_get bs i ≡ Some (p, ps) →
    length ps ≤ k
    → onward bs i k ≡ onward bs (suc i) 0
onward-over bs i k p ps e le =
    onward-cut bs i k p ps e ∙ ap (λ (l : List Pair). l ++ pairs_of (drop (suc i) bs)) (drop_all k ps le)
    ∙ sym (onward-start bs (suc i))

pub up_to-cut : (bs : PlacedBlocks) (i k : ℕ) (p : Ptr) (ps : List Pair) → slice_get bs i ≡ Some (p, ps)
    → up_to bs (suc i) k ≡ pairs_of (take i bs) ++ take k ps
up_to-cut [] i k p ps e = cc
up_to-cut (b ∷ bs) zero k p ps e = let at : b ≡ (p, ps) = cc in ap (λ (c : Ptr × List Pair). take k c.1) at
up_to-cut (b ∷ bs) (suc i) k p ps e = ap (λ (l : List Pair). b.1 ++ l) (up_to-cut bs i k p ps e)
    ∙ sym (append_assoc b.1 (pairs_of (take i bs)) (take k ps))

pub up_to-whole : (bs : PlacedBlocks) (i k : ℕ) (p : Ptr) (ps : List Pair) → slice_get bs i ≡ Some (p, ps) →
    k ≡ length ps
    → up_to bs (suc i) k ≡ pairs_of (take (suc i) bs)
up_to-whole bs i k p ps e m = up_to-cut bs i k p ps e
    ∙ ap (λ (l : List Pair). pairs_of (take i bs) ++ l) (take_all k ps (omega arith)) ∙ sym (pairs-take bs i p ps e)

take-get : (ps : List Pair) (k : ℕ) (q : Pair) → slice_get ps k ≡ Some q → take (suc k) ps ≡ take k ps ++ q ∷ []
take-get [] k q e = cc
take-get (p ∷ ps) zero q e = let at : p ≡ q = cc in ap (λ (r : Pair). r ∷ []) at
take-get (p ∷ ps) (suc k) q e = ap (λ (l : List Pair). p ∷ l) (take-get ps k q e)

-- the next pair down
pub up_to-step : (bs : PlacedBlocks) (i k : ℕ) (p : Ptr) (ps : List Pair) (q : Pair) → slice_get bs i ≡ Some (p, ps)
    → slice_get ps k ≡ Some q → up_to bs (suc i) (suc k) ≡ up_to bs (suc i) k ++ q ∷ []
up_to-step bs i k p ps q e f =
    up_to-cut bs i (suc k) p ps e ∙ ap (λ (l : List Pair). pairs_of (take i bs) ++ l) (take-get ps k q f)
    ∙ sym (append_assoc (pairs_of (take i bs)) (take k ps) (q ∷ []))
    ∙ ap (λ (l : List Pair). l ++ q ∷ []) (sym (up_to-cut bs i k p ps e))

pub up_to-none : (bs : PlacedBlocks) (i : ℕ) (p : Ptr) (ps : List Pair) → slice_get bs i ≡ Some (p, ps)
    → up_to bs (suc i) 0 ≡ pairs_of (take i bs)
up_to-none bs i p ps e = up_to-cut bs i 0 p ps e ∙ append-nil (pairs_of (take i bs))

pub up_to-all : (bs : PlacedBlocks) (i : ℕ) (p : Ptr) (k : ℕ) → (0 < i → IsWhole bs (i - 1) p k)
    → up_to bs i k ≡ pairs_of (take i bs)
up_to-all bs zero p k w = refl
up_to-all bs (suc j) p k w =
    let whole = w (omega arith) in let same : suc j - 1 ≡ j = omega arith in
    up_to-whole bs j k p whole.pairs (sym (ap (λ (i : ℕ). slice_get bs i) same) ∙ whole.is) whole.count

-- the walk down gives the last pair that is left
pub down-step : (bs : PlacedBlocks) (i k : ℕ) (p : Ptr) (ps : List Pair) (q : Pair) → 0 < i → 0 < k
    → slice_get bs (i - 1) ≡ Some (p, ps) → slice_get ps (k - 1) ≡ Some q
    → reverse (up_to bs i k) ≡ q ∷ reverse (up_to bs i (k - 1))
down-step bs i k p ps q some more e f =
    let at : suc (i - 1) ≡ i = omega arith in let here : suc (k - 1) ≡ k = omega arith in
    subst (λ (w : ℕ × ℕ). reverse (up_to bs w.0 w.1) ≡ q ∷ reverse (up_to bs w.0 (k - 1))) (λ j. (at j, here j))
    (ap reverse (up_to-step bs (i - 1) (k - 1) p ps q e f) ∙ reverse-append (up_to bs (suc (i - 1)) (k - 1)) (q ∷ []))

-- and goes on with the block before
pub down-over : (bs : PlacedBlocks) (i k m : ℕ) (p r : Ptr) (ps : List Pair) → 0 < i → k ≡ 0
    → slice_get bs (i - 1) ≡ Some (p, ps) → (0 < i - 1 → IsWhole bs (i - 1 - 1) r m) → up_to bs i k ≡ up_to bs (i - 1) m
down-over bs i k m p r ps some none e w =
    let at : suc (i - 1) ≡ i = omega arith in
    ap (λ (j : ℕ). up_to bs j k) (sym at) ∙ ap (λ (j : ℕ). up_to bs (suc (i - 1)) j) none ∙ up_to-none bs (i - 1) p ps e
    ∙ sym (up_to-all bs (i - 1) r m w)
