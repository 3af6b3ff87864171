-- What becomes of the blocks as pairs come and go.
--     rising-push, rising_gap, rising_count      rising locals
--     pairs-*, filled-*, room-*                  one block that changes, or goes
--     grown                                      the last block takes a pair
--     lost_pair, alone                           a pair goes, and maybe its block
--     chain_grown, chain_left, chain_stocked     what holds of a chain holds on
use Rattle.std.proofs.Common.{◌≡◌, ℕ, zero, suc, min, max, ◌+◌, ◌-◌, ◌*◌, ◌/◌, ◌%◌, ◌^◌, ◌<◌, ◌≤◌, List, [], ◌∷◌, ◌++◌}
use Rattle.std.proofs.Common.{length, take, drop, slice_get, Some, inl, inr, refl, sym, ap, subst, ◌∙◌, arith}
use Rattle.std.proofs.Common.{append_assoc, append-nil}
use Rattle.std.proofs.lemmas.List.{length-append}
use Rattle.std.proofs.lemmas.Grind.{div_ceil_times}
use Rattle.std.specs.List.{remove}
use denote.RawPtr.{Ptr}
use Rattle.map_chain.specs.Pairs.{Pair, AllBelow, AllFrom, IsRising}
use Rattle.map_chain.specs.Edit.{edit}
use Rattle.map_chain.specs.Blocks.{PlacedBlocks, pairs_of, room_in, room_of, AllFilled, HasMadeRoom, HasLost}
use Rattle.map_chain.specs.Chain.{IsChain}
use Rattle.map_chain.proofs.Linking.{length-edit, get-within, length-remove_at, one_block, room-some}
use Rattle.map_chain.proofs.Seeking.{AllBelow-append, AllFrom-append, AllFrom-left, AllFrom-right, pairs-append}
use Rattle.map_chain.proofs.Seeking.{filled_at}

pub rising-push : (ps : List Pair) (q : Pair) → IsRising ps → AllBelow q.0 ps → IsRising (ps ++ q ∷ [])
rising-push [] q r b = (tt, tt)
rising-push (p ∷ ps) q r b = (AllFrom-append (suc p.0) ps (q ∷ []) r.0 (b.0, tt), rising-push ps q r.1 b.1)

-- one pair is left out
pub rising_gap : (xs : List Pair) (q : Pair) (ys : List Pair) → IsRising (xs ++ q ∷ ys) → IsRising (xs ++ ys)
rising_gap [] q ys r = r.1
rising_gap (x ∷ xs) q ys r = (
  AllFrom-append (suc x.0) xs ys (AllFrom-left (suc x.0) xs (q ∷ ys) r.0)
      (AllFrom-right (suc x.0) xs (q ∷ ys) r.0).1,
  rising_gap xs q ys r.1,
)

pub below_gap : (n : ℕ) (xs : List Pair) (q : Pair) (ys : List Pair) → AllBelow n (xs ++ q ∷ ys) → AllBelow n (xs ++ ys)
below_gap n [] q ys b = b.1
below_gap n (x ∷ xs) q ys b = (b.0, below_gap n xs q ys b.1)

pub length_gap : (xs : List Pair) (q : Pair) (ys : List Pair) → length (xs ++ q ∷ ys) ≡ suc (length (xs ++ ys))
length_gap [] q ys = refl
length_gap (x ∷ xs) q ys = ap suc (length_gap xs q ys)

rising_span : (m n : ℕ) (ps : List Pair) → m ≤ n → AllFrom m ps → IsRising ps → AllBelow n ps → length ps + m ≤ n
rising_span m n [] le a r b = omega arith
rising_span m n (p ∷ ps) le a r b =
    let low : m ≤ p.0 = a.0 in let top : p.0 < n = b.0 in
    let rest = rising_span (suc p.0) n ps (omega arith) r.0 r.1 b.1 in omega arith

from_zero : (ps : List Pair) → AllFrom 0 ps
from_zero [] = tt
from_zero (p ∷ ps) = (omega arith, from_zero ps)

-- rising locals are not more than the numbers they are below
pub rising_count : (n : ℕ) (ps : List Pair) → IsRising ps → AllBelow n ps → length ps ≤ n
rising_count n ps r b = let all = rising_span 0 n ps (omega arith) (from_zero ps) r b in omega arith

pub length_filled : (bs : PlacedBlocks) → AllFilled bs → length bs ≤ length (pairs_of bs)
length_filled [] f = omega arith
length_filled (b ∷ bs) f =
    let some : 0 < length b.1 = f.0 in let rest = length_filled bs f.2 in
    let both = length-append b.1 (pairs_of bs) in omega arith

pub room-cons : (b : Ptr × List Pair) (cs : PlacedBlocks) → 0 < length cs → room_in (b ∷ cs) ≡ room_in cs
room-cons b [] some = absurd (omega arith)
room-cons b (c ∷ cs) some = refl

pub pairs-push : (bs : PlacedBlocks) (j : ℕ) (q : Pair) → suc j ≡ length bs
    → pairs_of (edit j (λ ps. ps ++ q ∷ []) bs) ≡ pairs_of bs ++ q ∷ []
pairs-push [] j q m = absurd (omega arith)
pairs-push (b ∷ []) zero q m = append-nil (b.1 ++ q ∷ []) ∙ ap (λ (l : List Pair). l ++ q ∷ []) (sym (append-nil b.1))
pairs-push (b ∷ []) (suc j) q m = absurd (omega arith)
pairs-push (b ∷ c ∷ bs) zero q m = absurd (omega arith)
pairs-push (b ∷ c ∷ bs) (suc j) q m = ap (λ (l : List Pair). b.1 ++ l) (pairs-push (c ∷ bs) j q (omega arith))
    ∙ sym (append_assoc b.1 (pairs_of (c ∷ bs)) (q ∷ []))

pub room-push : (bs : PlacedBlocks) (j : ℕ) (q : Pair) → suc j ≡ length bs → 0 < room_in bs
    → room_in (edit j (λ ps. ps ++ q ∷ []) bs) + 1 ≡ room_in bs
room-push [] j q m some = absurd (omega arith)
room-push (b ∷ []) zero q m some = let more = length-append b.1 (q ∷ []) in omega arith
room-push (b ∷ []) (suc j) q m some = absurd (omega arith)
room-push (b ∷ c ∷ bs) zero q m some = absurd (omega arith)
room-push (b ∷ c ∷ bs) (suc j) q m some =
    let long = length-edit (c ∷ bs) j (λ ps. ps ++ q ∷ []) in let rest = room-push (c ∷ bs) j q (omega arith) some in
    let same = room-cons b (edit j (λ ps. ps ++ q ∷ []) (c ∷ bs)) (omega arith) in omega arith

pub filled-push : (bs : PlacedBlocks) (j : ℕ) (q : Pair) → suc j ≡ length bs → 0 < room_in bs → AllFilled bs
    → AllFilled (edit j (λ ps. ps ++ q ∷ []) bs)
filled-push [] j q m some f = absurd (omega arith)
filled-push (b ∷ []) zero q m some f = let more = length-append b.1 (q ∷ []) in (omega arith, omega arith, tt)
filled-push (b ∷ []) (suc j) q m some f = absurd (omega arith)
filled-push (b ∷ c ∷ bs) zero q m some f = absurd (omega arith)
filled-push (b ∷ c ∷ bs) (suc j) q m some f = (f.0, f.1, filled-push (c ∷ bs) j q (omega arith) some f.2)

-- a block with one pair, after the others
pub filled-begin : (bs : PlacedBlocks) (p : Ptr) (q : Pair) (j : ℕ) → j ≡ length bs → AllFilled bs
    → AllFilled (edit j (λ ps. ps ++ q ∷ []) (bs ++ (p, []) ∷ []))
filled-begin [] p q zero m f = (omega arith, omega arith, tt)
filled-begin [] p q (suc j) m f = absurd (omega arith)
filled-begin (b ∷ bs) p q zero m f = absurd (omega arith)
filled-begin (b ∷ bs) p q (suc j) m f = (f.0, f.1, filled-begin bs p q j (omega arith) f.2)

room-begin : (bs : PlacedBlocks) (p : Ptr) → room_in (bs ++ (p, []) ∷ []) ≡ 64
room-begin [] p = refl
room-begin (b ∷ bs) p =
    let long = length-append bs ((p, []) ∷ []) in room-cons b (bs ++ (p, []) ∷ []) (omega arith) ∙ room-begin bs p

-- the last block has taken a pair
pub record Grown (used spare now spare' : PlacedBlocks) (q : Pair) : Type 0 where
  pub pairs : pairs_of now ≡ pairs_of used ++ q ∷ []
  pub filled : AllFilled now
  pub few : length now + length spare' ≤ 2 ^ 60
  pub room : room_of used spare ≤ room_of now spare' + 1

pub has_room : (used spare used' spare' : PlacedBlocks) → HasMadeRoom used spare used' spare' → 0 < room_in used'
has_room used spare used' spare' h = elim h [
  | inl w ↦ subst (λ (bs : PlacedBlocks). 0 < room_in bs) (sym w.1) w.0
  | inr w ↦ subst (λ (bs : PlacedBlocks). 0 < room_in bs) (sym w.2) (let all = room-begin used w.0 in omega arith)
]

grown_last : (used spare : PlacedBlocks) (q : Pair) (j : ℕ) → suc j ≡ length used → 0 < room_in used → AllFilled used
    → length used + length spare ≤ 2 ^ 60
    → Grown used spare (edit j (λ ps. ps ++ q ∷ []) used) spare q
grown_last used spare q j m some f few =
    let long = length-edit used j (λ ps. ps ++ q ∷ []) in let room = room-push used j q m some in
    record {
      pairs = pairs-push used j q m;
      filled = filled-push used j q m some f;
      few = omega arith;
      room = omega arith;
    }

grown_more : (used spare spare' : PlacedBlocks) (p : Ptr) (q : Pair) (j : ℕ) → suc j ≡ length (used ++ (p, []) ∷ [])
    → room_in used ≡ 0 → length spare' ≡ length spare - 1 → AllFilled used
    → length used < 2 ^ 60 → length used + length spare ≤ 2 ^ 60
    → Grown used spare (edit j (λ ps. ps ++ q ∷ []) (used ++ (p, []) ∷ [])) spare' q
grown_more used spare spare' p q j m none less f under few =
    let more = used ++ (p, []) ∷ [] in let size = length-append used ((p, []) ∷ []) in let all = room-begin used p in
    let long = length-edit more j (λ ps. ps ++ q ∷ []) in let room = room-push more j q m (omega arith) in
    record {
      pairs = pairs-push more j q m
          ∙ ap (λ (l : List Pair). l ++ q ∷ []) (pairs-append used ((p, []) ∷ []) ∙ append-nil (pairs_of used));
      filled = filled-begin used p q j (omega arith) f;
      few = omega arith;
      room = omega arith;
    }

pub grown : (used spare used' spare' now : PlacedBlocks) (q : Pair) → HasMadeRoom used spare used' spare'
    → now ≡ edit (length used' - 1) (λ ps. ps ++ q ∷ []) used' → AllFilled used
    → length used < 2 ^ 60 → length used + length spare ≤ 2 ^ 60 → Grown used spare now spare' q
grown used spare used' spare' now q h is f under few =
    subst (λ (bs : PlacedBlocks). Grown used spare bs spare' q) (sym is)
    (elim h [
      | inl w ↦
          let some = room-some used w.0 in
          subst (λ (bs : PlacedBlocks). Grown used spare (edit (length bs - 1) (λ ps. ps ++ q ∷ []) bs) spare' q)
          (sym w.1)
          (subst (λ (cs : PlacedBlocks). Grown used spare (edit (length used - 1) (λ ps. ps ++ q ∷ []) used) cs q)
          (sym w.2)
          (grown_last used spare q (length used - 1) (omega arith) w.0 f few))
      | inr w ↦
          let p = w.0 in let size = length-append used ((p, []) ∷ []) in
          subst (λ (bs : PlacedBlocks). Grown used spare (edit (length bs - 1) (λ ps. ps ++ q ∷ []) bs) spare' q)
          (sym w.2)
          (grown_more used spare spare' p q (length (used ++ (p, []) ∷ []) - 1) (omega arith) w.1 w.3 f under few)
    ])

pub pairs-edit : (bs : PlacedBlocks) (i : ℕ) (p : Ptr) (ps : List Pair) (f : List Pair → List Pair)
    → slice_get bs i ≡ Some (p, ps)
    → pairs_of (edit i f bs) ≡ pairs_of (take i bs) ++ (f ps ++ pairs_of (drop (suc i) bs))
pairs-edit [] i p ps f e = cc
pairs-edit (b ∷ bs) zero p ps f e = let at : b ≡ (p, ps) = cc in ap (λ (c : Ptr × List Pair). f c.1 ++ pairs_of bs) at
pairs-edit (b ∷ bs) (suc i) p ps f e = ap (λ (l : List Pair). b.1 ++ l) (pairs-edit bs i p ps f e)
    ∙ sym (append_assoc b.1 (pairs_of (take i bs)) (f ps ++ pairs_of (drop (suc i) bs)))

pub filled-edit : (bs : PlacedBlocks) (i : ℕ) (p : Ptr) (ps : List Pair) (f : List Pair → List Pair)
    → slice_get bs i ≡ Some (p, ps) → 0 < length (f ps) → length (f ps) ≤ 64 → AllFilled bs → AllFilled (edit i f bs)
filled-edit [] i p ps f e some less all = cc
filled-edit (b ∷ bs) zero p ps f e some less all =
    let at : b ≡ (p, ps) = cc in (
      subst (λ (c : Ptr × List Pair). 0 < length (f c.1)) (sym at) some,
      subst (λ (c : Ptr × List Pair). length (f c.1) ≤ 64) (sym at) less,
      all.2,
    )
filled-edit (b ∷ bs) (suc i) p ps f e some less all = (all.0, all.1, filled-edit bs i p ps f e some less all.2)

pub room-edit : (bs : PlacedBlocks) (i : ℕ) (p : Ptr) (ps : List Pair) (f : List Pair → List Pair)
    → slice_get bs i ≡ Some (p, ps) → length (f ps) ≤ length ps → room_in bs ≤ room_in (edit i f bs)
room-edit [] i p ps f e less = cc
room-edit (b ∷ []) zero p ps f e less =
    let at : b ≡ (p, ps) = cc in
    subst (λ (c : Ptr × List Pair). 64 - length c.1 ≤ 64 - length (f c.1)) (sym at) (omega arith)
room-edit (b ∷ []) (suc i) p ps f e less = cc
room-edit (b ∷ c ∷ bs) zero p ps f e less = omega arith
room-edit (b ∷ c ∷ bs) (suc i) p ps f e less =
    let long = length-edit (c ∷ bs) i f in let rest = room-edit (c ∷ bs) i p ps f e less in
    let same = room-cons b (edit i f (c ∷ bs)) (omega arith) in omega arith

pub pairs-remove : (bs : PlacedBlocks) (i : ℕ) → i < length bs
    → pairs_of (remove bs i) ≡ pairs_of (take i bs) ++ pairs_of (drop (suc i) bs)
pairs-remove [] i h = absurd (omega arith)
pairs-remove (b ∷ bs) zero h = refl
pairs-remove (b ∷ bs) (suc i) h = ap (λ (l : List Pair). b.1 ++ l) (pairs-remove bs i (omega arith))
    ∙ sym (append_assoc b.1 (pairs_of (take i bs)) (pairs_of (drop (suc i) bs)))

pub filled-remove : (bs : PlacedBlocks) (i : ℕ) → AllFilled bs → AllFilled (remove bs i)
filled-remove [] zero f = tt
filled-remove [] (suc i) f = tt
filled-remove (b ∷ bs) zero f = f.2
filled-remove (b ∷ bs) (suc i) f = (f.0, f.1, filled-remove bs i f.2)

pub room-remove : (bs : PlacedBlocks) (i : ℕ) → suc i < length bs → room_in (remove bs i) ≡ room_in bs
room-remove [] i h = absurd (omega arith)
room-remove (b ∷ bs) zero h = sym (room-cons b bs (omega arith))
room-remove (b ∷ bs) (suc i) h =
    let long = length-remove_at bs i (omega arith) in
    room-cons b (remove bs i) (omega arith) ∙ room-remove bs i (omega arith) ∙ sym (room-cons b bs (omega arith))

one_gone : (ps : List Pair) (k : ℕ) → length ps ≤ 1 → k < length ps → remove ps k ≡ []
one_gone [] k one h = absurd (omega arith)
one_gone (p ∷ []) zero one h = refl
one_gone (p ∷ []) (suc k) one h = absurd (omega arith)
one_gone (p ∷ q ∷ ps) k one h = absurd (omega arith)

module _ (used spare : PlacedBlocks) (i k : ℕ) (p : Ptr) (ps : List Pair) (at : slice_get used i ≡ Some (p, ps))
    (within : k < length ps) (filled : AllFilled used) where
  -- the only pair of its block
  pub alone : (used' : PlacedBlocks) → used' ≡ remove used i → length ps ≤ 1 → (q : Ptr) (qs : List Pair)
      → slice_get used i ≡ Some (q, qs)
      → pairs_of used' ≡ pairs_of (take i used) ++ (remove qs k ++ pairs_of (drop (suc i) used))
  alone used' is one q qs e =
      let same = (one_block used i p q ps qs at e).1 in
      ap pairs_of is ∙ pairs-remove used i (get-within used i (p, ps) at)
      ∙ ap (λ (l : List Pair). pairs_of (take i used) ++ (l ++ pairs_of (drop (suc i) used)))
      (sym (one_gone ps k one within) ∙ ap (λ (l : List Pair). remove l k) same)

  pub lost_pair : (used' : PlacedBlocks) → used' ≡ edit i (λ l. remove l k) used → 1 < length ps
      → HasLost used spare i k used' spare
  lost_pair used' is more =
      let f : List Pair → List Pair = λ l. remove l k in let less = length-remove_at ps k within in
      let long = length-edit used i f in
      let top = (filled_at used i p ps filled at).1 in let room = room-edit used i p ps f at (omega arith) in
      subst (λ (bs : PlacedBlocks). HasLost used spare i k bs spare) (sym is) (record {
        pairs = λ q qs e. pairs-edit used i q qs f e;
        filled = filled-edit used i p ps f at (omega arith) (omega arith) filled;
        few = omega arith;
        room = omega arith;
      })

-- spare blocks have come, and not more than were asked for
pub record HasStocked (old now : PlacedBlocks) (blocks : ℕ) : Type 0 where
  pub kept : length old ≤ length now
  pub few : length now ≤ max (length old) blocks

pub stocked-link : (old now next : PlacedBlocks) (p : Ptr) (blocks : ℕ) → HasStocked old now blocks →
    length now < blocks
    → next ≡ now ++ (p, []) ∷ [] → HasStocked old next blocks
stocked-link old now next p blocks s less is =
    let more = ap (λ (l : PlacedBlocks). length l) is ∙ length-append now ((p, []) ∷ []) in
    let kept = s.kept in record { kept = omega arith; few = omega arith }

few_blocks : (used spare : PlacedBlocks) (len : ℕ) → IsChain used spare len → length used ≤ 2 ^ 32
few_blocks used spare len v =
    let pairs = rising_count (2 ^ 32) (pairs_of used) v.rising v.fits in
    let blocks = length_filled used v.filled in omega arith

pub blocks_under : (used spare : PlacedBlocks) (len : ℕ) → IsChain used spare len → length used < 2 ^ 60
blocks_under used spare len v = let few = few_blocks used spare len v in omega arith

pub pairs_under : (used spare : PlacedBlocks) (len : ℕ) → IsChain used spare len → len ≤ 2 ^ 32
pairs_under used spare len v =
    let pairs = rising_count (2 ^ 32) (pairs_of used) v.rising v.fits in let count = v.counted in omega arith

-- a chain takes a pair
pub chain_grown : (used spare now spare' : PlacedBlocks) (q : Pair) (len : ℕ) → IsChain used spare len
    → Grown used spare now spare' q → AllBelow q.0 (pairs_of used) → q.0 < 2 ^ 32 → IsChain now spare' (len + 1)
chain_grown used spare now spare' q len v g above fits =
    let more = ap (λ (l : List Pair). length l) g.pairs ∙ length-append (pairs_of used) (q ∷ []) in
    let count = v.counted in
    record {
      rising = subst IsRising (sym g.pairs) (rising-push (pairs_of used) q v.rising above);
      fits = subst (AllBelow (2 ^ 32)) (sym g.pairs)
          (AllBelow-append (2 ^ 32) (pairs_of used) (q ∷ []) v.fits (fits, tt));
      filled = g.filled;
      counted = omega arith;
      few = g.few;
    }

remove-cut : (ps : List Pair) (k : ℕ) → remove ps k ≡ take k ps ++ drop (suc k) ps
remove-cut [] zero = refl
remove-cut [] (suc k) = refl
remove-cut (p ∷ ps) zero = refl
remove-cut (p ∷ ps) (suc k) = ap (λ (l : List Pair). p ∷ l) (remove-cut ps k)

-- the pairs before the one that is gone, and those after it
pub pairs_left : (used spare used' spare' : PlacedBlocks) (i k : ℕ) (p : Ptr) (ps : List Pair)
    → HasLost used spare i k used' spare' → slice_get used i ≡ Some (p, ps)
    → pairs_of used' ≡ (pairs_of (take i used) ++ take k ps) ++ (drop (suc k) ps ++ pairs_of (drop (suc i) used))
pairs_left used spare used' spare' i k p ps h e =
    let A = pairs_of (take i used) in let C = pairs_of (drop (suc i) used) in
    h.pairs p ps e ∙ ap (λ (l : List Pair). A ++ l)
    (ap (λ (l : List Pair). l ++ C) (remove-cut ps k) ∙ append_assoc (take k ps) (drop (suc k) ps) C)
    ∙ sym (append_assoc A (take k ps) (drop (suc k) ps ++ C))

-- a chain loses a pair
pub chain_left : (used spare used' spare' : PlacedBlocks) (i k len : ℕ) (low : List Pair) (q : Pair) (high : List Pair)
    → IsChain used spare len → HasLost used spare i k used' spare'
    → pairs_of used ≡ low ++ q ∷ high → pairs_of used' ≡ low ++ high → IsChain used' spare' (len - 1)
chain_left used spare used' spare' i k len low q high v h is now =
    let size = ap (λ (l : List Pair). length l) is ∙ length_gap low q high in
    let left = ap (λ (l : List Pair). length l) now in let count = v.counted in
    let fewer = h.few in let few = v.few in
    record {
      rising = subst IsRising (sym now) (rising_gap low q high (subst IsRising is v.rising));
      fits = subst (AllBelow (2 ^ 32)) (sym now) (below_gap (2 ^ 32) low q high (subst (AllBelow (2 ^ 32)) is v.fits));
      filled = h.filled;
      counted = omega arith;
      few = omega arith;
    }

-- a chain with more spare blocks
pub chain_stocked : (used spare spare' : PlacedBlocks) (len blocks n : ℕ) → IsChain used spare len
    → length spare' ≤ max (length spare) blocks → blocks ≡ n / 64 + min 1 (n % 64) → n < 2 ^ 64
    → IsChain used spare' len
chain_stocked used spare spare' len blocks n v more is top =
    let under = few_blocks used spare len v in let few = v.few in let times = div_ceil_times n 64 (omega arith) in
    let upper = times.1 in
    let bound : blocks * 64 < n + 64 = subst (λ (b : ℕ). b * 64 < n + 64) (sym is) upper in
    record { rising = v.rising; fits = v.fits; filled = v.filled; counted = v.counted; few = omega arith }
