-- The keys of the blocks of a chain follow them.
--     keys_length                       there is a key of each block
--     before_nearest, passed_reaches    what the nearest key tells of the blocks
--     keys-begin, keys-push             a pair comes, with a block of its own or into the last one
--     keys-pair, keys-remove            a pair goes, or a block with its key
--     keys-join                         a block takes the pairs of the next one, whose key goes
use Rattle.std.proofs.Common.{◌≡◌, ℕ, zero, suc, ◌<◌, ◌≤◌, List, [], ◌∷◌, ◌++◌, length, take, get_or}
use Rattle.std.proofs.Common.{slice_get, Some, refl, ap, subst, arith}
use Rattle.std.specs.List.{remove}
use denote.RawPtr.{Ptr}
use Rattle.map_chain.specs.Pairs.{Pair, AllBelow, AllFrom, highest}
use Rattle.map_chain.specs.Edit.{edit}
use Rattle.map_chain.specs.Blocks.{PlacedBlocks, pairs_of, AllFilled}
use Rattle.map_chain.specs.Keys.{AreAbove, AreKeysOf, IsNearest}
use Rattle.map_chain.proofs.Lists.{AllFrom-weaken}
use Rattle.map_chain.proofs.Seeking.{AllBelow-append, AllFrom-append}

AllBelow-weaken : (n m : ℕ) (ps : List Pair) → n ≤ m → AllBelow n ps → AllBelow m ps
AllBelow-weaken n m [] le b = tt
AllBelow-weaken n m (p ∷ ps) le b = let less : p.0 < n = b.0 in (omega arith, AllBelow-weaken n m ps le b.1)

AllBelow-left : (n : ℕ) (xs ys : List Pair) → AllBelow n (xs ++ ys) → AllBelow n xs
AllBelow-left n [] ys b = tt
AllBelow-left n (x ∷ xs) ys b = (b.0, AllBelow-left n xs ys b.1)

AllBelow-right : (n : ℕ) (xs ys : List Pair) → AllBelow n (xs ++ ys) → AllBelow n ys
AllBelow-right n [] ys b = b
AllBelow-right n (x ∷ xs) ys b = AllBelow-right n xs ys b.1

AllBelow-remove : (n : ℕ) (ps : List Pair) (k : ℕ) → AllBelow n ps → AllBelow n (remove ps k)
AllBelow-remove n [] zero b = tt
AllBelow-remove n [] (suc k) b = tt
AllBelow-remove n (p ∷ ps) zero b = b.1
AllBelow-remove n (p ∷ ps) (suc k) b = (b.0, AllBelow-remove n ps k b.1)

AllFrom-remove : (n : ℕ) (ps : List Pair) (k : ℕ) → AllFrom n ps → AllFrom n (remove ps k)
AllFrom-remove n [] zero a = tt
AllFrom-remove n [] (suc k) a = tt
AllFrom-remove n (p ∷ ps) zero a = a.1
AllFrom-remove n (p ∷ ps) (suc k) a = (a.0, AllFrom-remove n ps k a.1)

-- some local lies between
between : (k n : ℕ) (ps : List Pair) → 0 < length ps → AllFrom k ps → AllBelow n ps → k ≤ n
between k n [] some a b = absurd (omega arith)
between k n (p ∷ ps) some a b = let low : k ≤ p.0 = a.0 in let high : p.0 < n = b.0 in omega arith

from_highest : (n : ℕ) (ps : List Pair) → 0 < length ps → AllFrom n ps → n ≤ highest ps
from_highest n [] some a = absurd (omega arith)
from_highest n (p ∷ []) some a = a.0
from_highest n (p ∷ q ∷ ps) some a = from_highest n (q ∷ ps) (omega arith) a.1

above_at : (ks : List ℕ) (ps : List Pair) (i : ℕ) → AreAbove ks ps → i < length ks → AllBelow (get_or ks i 0) ps
above_at [] ps i a h = absurd (omega arith)
above_at (k ∷ ks) ps zero a h = a.0
above_at (k ∷ ks) ps (suc i) a h = above_at ks ps i a.1 (omega arith)

above-push : (ks : List ℕ) (n : ℕ) (ps : List Pair) → AreAbove ks ps → AllBelow n ps → AreAbove (ks ++ n ∷ []) ps
above-push [] n ps a b = (b, tt)
above-push (k ∷ ks) n ps a b = (a.0, above-push ks n ps a.1 b)

above-append : (ks : List ℕ) (xs ys : List Pair) → AreAbove ks xs → AreAbove ks ys → AreAbove ks (xs ++ ys)
above-append [] xs ys a b = tt
above-append (k ∷ ks) xs ys a b = (AllBelow-append k xs ys a.0 b.0, above-append ks xs ys a.1 b.1)

-- a pair goes
above-pair : (ks : List ℕ) (ps : List Pair) (k : ℕ) → AreAbove ks ps → AreAbove ks (remove ps k)
above-pair [] ps k a = tt
above-pair (l ∷ ks) ps k a = (AllBelow-remove l ps k a.0, above-pair ks ps k a.1)

-- a key goes
above-remove : (ks : List ℕ) (ps : List Pair) (i : ℕ) → AreAbove ks ps → AreAbove (remove ks i) ps
above-remove [] ps zero a = tt
above-remove [] ps (suc i) a = tt
above-remove (k ∷ ks) ps zero a = a.1
above-remove (k ∷ ks) ps (suc i) a = (a.0, above-remove ks ps i a.1)

pub keys_length : (ks : List ℕ) (bs : PlacedBlocks) → AreKeysOf ks bs → length ks ≡ length bs
keys_length [] [] a = refl
keys_length [] (b ∷ bs) a = absurd a
keys_length (k ∷ ks) [] a = absurd a
keys_length (k ∷ ks) (b ∷ bs) a = ap suc (keys_length ks bs a.2)

-- the pairs before a block are below its key
keys_above : (ks : List ℕ) (bs : PlacedBlocks) (i : ℕ) → AreKeysOf ks bs → i < length ks
    → AllBelow (get_or ks i 0) (pairs_of (take i bs))
keys_above [] bs i a h = absurd (omega arith)
keys_above (k ∷ ks) [] i a h = absurd a
keys_above (k ∷ ks) (b ∷ bs) zero a h = tt
keys_above (k ∷ ks) (b ∷ bs) (suc i) a h =
    AllBelow-append (get_or ks i 0) b.1 (pairs_of (take i bs)) (above_at ks b.1 i a.1 (omega arith))
    (keys_above ks bs i a.2 (omega arith))

pub before_nearest : (n : ℕ) (ks : List ℕ) (bs : PlacedBlocks) (i : ℕ) → AreKeysOf ks bs → IsNearest n ks i
    → AllBelow n (pairs_of (take i bs))
before_nearest n ks bs zero a h = tt
before_nearest n ks bs (suc i) a h =
    AllBelow-weaken (get_or ks (suc i) 0) n (pairs_of (take (suc i) bs)) (h.reached (omega arith))
    (keys_above ks bs (suc i) a h.within)

-- the pairs of a block are not below its key
keys_from : (ks : List ℕ) (bs : PlacedBlocks) (i : ℕ) (p : Ptr) (ps : List Pair) → AreKeysOf ks bs
    → slice_get bs i ≡ Some (p, ps) → AllFrom (get_or ks i 0) ps
keys_from [] [] i p ps a e = cc
keys_from [] (b ∷ bs) i p ps a e = absurd a
keys_from (k ∷ ks) [] i p ps a e = absurd a
keys_from (k ∷ ks) (b ∷ bs) zero p ps a e =
    let at : b ≡ (p, ps) = cc in subst (λ (c : Ptr × List Pair). AllFrom k c.1) at a.0
keys_from (k ∷ ks) (b ∷ bs) (suc i) p ps a e = keys_from ks bs i p ps a.2 e

-- a block whose key has passed n reaches it
pub passed_reaches : (n : ℕ) (ks : List ℕ) (bs : PlacedBlocks) (i : ℕ) (p : Ptr) (ps : List Pair) → AreKeysOf ks bs
    → slice_get bs i ≡ Some (p, ps) → 0 < length ps → n < get_or ks i 0 → n ≤ highest ps
passed_reaches n ks bs i p ps a e some h =
    let top = from_highest (get_or ks i 0) ps some (keys_from ks bs i p ps a e) in omega arith

pub keys-begin : (ks : List ℕ) (bs : PlacedBlocks) (p : Ptr) (q : Pair) (j : ℕ) → j ≡ length bs → AreKeysOf ks bs
    → AllBelow q.0 (pairs_of bs) → AreKeysOf (ks ++ q.0 ∷ []) (edit j (λ ps. ps ++ q ∷ []) (bs ++ (p, []) ∷ []))
keys-begin [] [] p q zero m a h = ((omega arith, tt), tt, tt)
keys-begin [] [] p q (suc j) m a h = absurd (omega arith)
keys-begin [] (b ∷ bs) p q j m a h = absurd a
keys-begin (k ∷ ks) [] p q j m a h = absurd a
keys-begin (k ∷ ks) (b ∷ bs) p q zero m a h = absurd (omega arith)
keys-begin (k ∷ ks) (b ∷ bs) p q (suc j) m a h = (
  a.0,
  above-push ks q.0 b.1 a.1 (AllBelow-left q.0 b.1 (pairs_of bs) h),
  keys-begin ks bs p q j (omega arith) a.2 (AllBelow-right q.0 b.1 (pairs_of bs) h),
)

pub keys-push : (ks : List ℕ) (bs : PlacedBlocks) (j : ℕ) (q : Pair) → suc j ≡ length bs → AllFilled bs →
    AreKeysOf ks bs
    → AllBelow q.0 (pairs_of bs) → AreKeysOf ks (edit j (λ ps. ps ++ q ∷ []) bs)
keys-push [] [] j q m f a h = absurd (omega arith)
keys-push [] (b ∷ bs) j q m f a h = absurd a
keys-push (k ∷ ks) [] j q m f a h = absurd a
keys-push (k ∷ []) (b ∷ []) zero q m f a h =
    let most = between k q.0 b.1 f.0 a.0 (AllBelow-left q.0 b.1 [] h) in
    (AllFrom-append k b.1 (q ∷ []) a.0 (most, tt), tt, tt)
keys-push (k ∷ l ∷ ks) (b ∷ []) zero q m f a h = absurd a.2
keys-push (k ∷ ks) (b ∷ []) (suc j) q m f a h = absurd (omega arith)
keys-push (k ∷ ks) (b ∷ c ∷ bs) zero q m f a h = absurd (omega arith)
keys-push (k ∷ ks) (b ∷ c ∷ bs) (suc j) q m f a h =
    (a.0, a.1, keys-push ks (c ∷ bs) j q (omega arith) f.2 a.2 (AllBelow-right q.0 b.1 (pairs_of (c ∷ bs)) h))

pub keys-pair : (ks : List ℕ) (bs : PlacedBlocks) (i k : ℕ) → AreKeysOf ks bs →
    AreKeysOf ks (edit i (λ ps. remove ps k) bs)
keys-pair [] [] i k a = tt
keys-pair [] (b ∷ bs) i k a = absurd a
keys-pair (l ∷ ks) [] i k a = absurd a
keys-pair (l ∷ ks) (b ∷ bs) zero k a = (AllFrom-remove l b.1 k a.0, above-pair ks b.1 k a.1, a.2)
keys-pair (l ∷ ks) (b ∷ bs) (suc i) k a = (a.0, a.1, keys-pair ks bs i k a.2)

pub keys-remove : (ks : List ℕ) (bs : PlacedBlocks) (i : ℕ) → AreKeysOf ks bs → AreKeysOf (remove ks i) (remove bs i)
keys-remove [] [] zero a = tt
keys-remove [] [] (suc i) a = tt
keys-remove [] (b ∷ bs) i a = absurd a
keys-remove (k ∷ ks) [] i a = absurd a
keys-remove (k ∷ ks) (b ∷ bs) zero a = a.2
keys-remove (k ∷ ks) (b ∷ bs) (suc i) a = (a.0, above-remove ks b.1 i a.1, keys-remove ks bs i a.2)

pub keys-join : (ks : List ℕ) (bs : PlacedBlocks) (i : ℕ) (q : Ptr) (qs : List Pair) →
    slice_get bs (suc i) ≡ Some (q, qs)
    → AllFilled bs → AreKeysOf ks bs → AreKeysOf (remove ks (suc i)) (edit i (λ ps. ps ++ qs) (remove bs (suc i)))
keys-join [] [] i q qs e f a = cc
keys-join [] (b ∷ bs) i q qs e f a = absurd a
keys-join (k ∷ ks) [] i q qs e f a = absurd a
keys-join (k ∷ ks) (b ∷ []) i q qs e f a = cc
keys-join (k ∷ []) (b ∷ c ∷ bs) i q qs e f a = absurd a.2
keys-join (k ∷ l ∷ ks) (b ∷ c ∷ bs) zero q qs e f a =
    let at : c ≡ (q, qs) = cc in let le = between k l b.1 f.0 a.0 a.1.0 in
    let both : AllFrom l qs × AreAbove ks qs = subst (λ (d : Ptr × List Pair). AllFrom l d.1 × AreAbove ks d.1) at
    (a.2.0, a.2.1) in
    (AllFrom-append k b.1 qs a.0 (AllFrom-weaken k l qs le both.0), above-append ks b.1 qs a.1.1 both.1, a.2.2)
keys-join (k ∷ l ∷ ks) (b ∷ c ∷ bs) (suc i) q qs e f a =
    (a.0, above-remove (l ∷ ks) b.1 (suc i) a.1, keys-join (l ∷ ks) (c ∷ bs) i q qs e f.2 a.2)
