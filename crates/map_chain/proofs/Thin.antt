-- Two neighbours become one block.
--     get-remove_before         a block before one that goes
--     pairs-join, filled-join, room-join     what the blocks have then
--     kept_join                 no pair and no room is gone
--     lost_whole                a block goes with its only pair
--     lost_kept                 a pair goes, and then no other
--     within_here               a pair of a block is one of those that it has
use Rattle.std.proofs.Common.{◌≡◌, ℕ, zero, suc, ◌+◌, ◌<◌, ◌≤◌, Bool, true, false, List, [], ◌∷◌, ◌++◌, length}
use Rattle.std.proofs.Common.{slice_get, Some, refl, sym, ap, subst, ◌∙◌, arith, append_assoc}
use Rattle.std.specs.List.{remove}
use Rattle.std.proofs.lemmas.List.{length-append}
use denote.RawPtr.{Ptr}
use Rattle.map_chain.specs.Pairs.{Pair}
use Rattle.map_chain.specs.Edit.{edit}
use Rattle.map_chain.specs.Blocks.{PlacedBlocks, pairs_of, room_in, AllFilled, IsPairAt, HasPutBy, HasKept, HasLost}
use Rattle.map_chain.proofs.Linking.{length-edit, length-remove_at, get-within, one_block}
use Rattle.map_chain.proofs.Growing.{room-cons, room-remove, alone, filled-remove}

pub get-remove_before : (bs : PlacedBlocks) (i : ℕ) → slice_get (remove bs (suc i)) i ≡ slice_get bs i
get-remove_before [] zero = refl
get-remove_before [] (suc i) = refl
get-remove_before (b ∷ bs) zero = refl
get-remove_before (b ∷ bs) (suc i) = get-remove_before bs i

-- the pairs of a block go to the end of the one before
abbrev pub joined : PlacedBlocks → ℕ → List Pair → PlacedBlocks
joined bs i qs = edit i (λ l. l ++ qs) (remove bs (suc i))

pairs-join : (bs : PlacedBlocks) (i : ℕ) (q : Ptr) (qs : List Pair) → slice_get bs (suc i) ≡ Some (q, qs)
    → pairs_of (joined bs i qs) ≡ pairs_of bs
pairs-join [] i q qs e = cc
pairs-join (b ∷ []) i q qs e = cc
pairs-join (b ∷ c ∷ bs) zero q qs e =
    let at : c ≡ (q, qs) = cc in
    append_assoc b.1 qs (pairs_of bs) ∙ ap (λ (d : Ptr × List Pair). b.1 ++ (d.1 ++ pairs_of bs)) (sym at)
pairs-join (b ∷ c ∷ bs) (suc i) q qs e = ap (λ (l : List Pair). b.1 ++ l) (pairs-join (c ∷ bs) i q qs e)

filled-join : (bs : PlacedBlocks) (i : ℕ) (p : Ptr) (ps qs : List Pair) → slice_get bs i ≡ Some (p, ps) →
    suc i < length bs
    → length ps + length qs ≤ 64 → AllFilled bs → AllFilled (joined bs i qs)
filled-join [] i p ps qs e h fits f = absurd (omega arith)
filled-join (b ∷ []) i p ps qs e h fits f = absurd (omega arith)
filled-join (b ∷ c ∷ bs) zero p ps qs e h fits f =
    let at : b ≡ (p, ps) = cc in
    let same : length b.1 ≡ length ps = ap (λ (d : Ptr × List Pair). length d.1) at in
    let some : 0 < length b.1 = f.0 in let more = length-append b.1 qs in
    (omega arith, omega arith, f.2.2)
filled-join (b ∷ c ∷ bs) (suc i) p ps qs e h fits f =
    (f.0, f.1, filled-join (c ∷ bs) i p ps qs e (omega arith) fits f.2)

length-join : (bs : PlacedBlocks) (i : ℕ) (qs : List Pair) → suc i < length bs →
    suc (length (joined bs i qs)) ≡ length bs
length-join bs i qs h =
    let less = length-remove_at bs (suc i) h in
    let same = length-edit (remove bs (suc i)) i (λ (l : List Pair). l ++ qs) in omega arith

room-join : (bs : PlacedBlocks) (i : ℕ) (qs : List Pair) → suc (suc i) < length bs →
    room_in (joined bs i qs) ≡ room_in bs
room-join [] i qs h = absurd (omega arith)
room-join (b ∷ []) i qs h = absurd (omega arith)
room-join (b ∷ c ∷ []) i qs h = absurd (omega arith)
room-join (b ∷ c ∷ d ∷ bs) zero qs h = refl
room-join (b ∷ c ∷ d ∷ bs) (suc i) qs h =
    let long = length-join (c ∷ d ∷ bs) i qs (omega arith) in
    room-cons b (joined (c ∷ d ∷ bs) i qs) (omega arith) ∙ room-join (c ∷ d ∷ bs) i qs (omega arith)

room-most : (bs : PlacedBlocks) → room_in bs ≤ 64
room-most [] = omega arith
room-most (b ∷ []) = omega arith
room-most (b ∷ c ∷ bs) = room-most (c ∷ bs)

module _ (used spare spare' : PlacedBlocks) (i : ℕ) (p q : Ptr) (ps qs : List Pair)
    (here : slice_get used i ≡ Some (p, ps))
    (next : slice_get used (suc i) ≡ Some (q, qs)) (fits : length ps + length qs ≤ 64) (filled : AllFilled used) where
  kept_by : (last : Bool) → HasPutBy spare spare' last → (last ≡ true → suc (suc i) ≡ length used)
      → (last ≡ false → suc (suc i) < length used)
      → HasKept used spare (joined used i qs) spare'
  kept_by true by end inner =
      let within = get-within used (suc i) (q, qs) next in let less = length-join used i qs within in
      let more : length spare' ≡ suc (length spare) = by.kept refl in let most = room-most used in
      record {
        pairs = pairs-join used i q qs next;
        filled = filled-join used i p ps qs here within fits filled;
        few = omega arith;
        room = omega arith;
      }
  kept_by false by end inner =
      let within = get-within used (suc i) (q, qs) next in let less = length-join used i qs within in
      let same : length spare' ≡ length spare = ap (λ (l : PlacedBlocks). length l) (by.gone refl) in
      let room = room-join used i qs (inner refl) in
      record {
        pairs = pairs-join used i q qs next;
        filled = filled-join used i p ps qs here within fits filled;
        few = omega arith;
        room = omega arith;
      }

  pub kept_join : (used' : PlacedBlocks) (last : Bool) → used' ≡ joined used i qs → HasPutBy spare spare' last
      → (last ≡ true → suc (suc i) ≡ length used)
      → (last ≡ false → suc (suc i) < length used) → HasKept used spare used' spare'
  kept_join used' last is by end inner =
      subst (λ (bs : PlacedBlocks). HasKept used spare bs spare') (sym is) (kept_by last by end inner)

module _ (used spare : PlacedBlocks) (i k : ℕ) (p : Ptr) (ps : List Pair) (at : slice_get used i ≡ Some (p, ps))
    (within : k < length ps) (filled : AllFilled used) where
  lost_by : (last : Bool) (spare' : PlacedBlocks) → HasPutBy spare spare' last → (last ≡ true → suc i ≡ length used)
      → (last ≡ false → suc i < length used)
      → length ps ≤ 1 → HasLost used spare i k (remove used i) spare'
  lost_by true spare' by end inner one =
      let inside = get-within used i (p, ps) at in let less = length-remove_at used i inside in
      let more : length spare' ≡ suc (length spare) = by.kept refl in let most = room-most used in
      record {
        pairs = alone used spare i k p ps at within filled (remove used i) refl one;
        filled = filled-remove used i filled;
        few = omega arith;
        room = omega arith;
      }
  lost_by false spare' by end inner one =
      let inside = get-within used i (p, ps) at in let less = length-remove_at used i inside in
      let same : length spare' ≡ length spare = ap (λ (l : PlacedBlocks). length l) (by.gone refl) in
      let room = room-remove used i (inner refl) in
      record {
        pairs = alone used spare i k p ps at within filled (remove used i) refl one;
        filled = filled-remove used i filled;
        few = omega arith;
        room = omega arith;
      }

  pub lost_whole : (used' spare' : PlacedBlocks) (last : Bool) → used' ≡ remove used i → HasPutBy spare spare' last
      → (last ≡ true → suc i ≡ length used)
      → (last ≡ false → suc i < length used) → length ps ≤ 1 → HasLost used spare i k used' spare'
  lost_whole used' spare' last is by end inner one =
      subst (λ (bs : PlacedBlocks). HasLost used spare i k bs spare') (sym is) (lost_by last spare' by end inner one)

pub lost_kept : (used spare mid used' spare' : PlacedBlocks) (i k : ℕ) → HasLost used spare i k mid spare
    → HasKept mid spare used' spare' → HasLost used spare i k used' spare'
lost_kept used spare mid used' spare' i k lost kept =
    let few = lost.few in let fewer = kept.few in let room = lost.room in let more = kept.room in
    record {
      pairs = λ p ps e. kept.pairs ∙ lost.pairs p ps e;
      filled = kept.filled;
      few = omega arith;
      room = omega arith;
    }

pub within_here : (bs : PlacedBlocks) (i k : ℕ) (p : Ptr) (ps : List Pair) → IsPairAt bs i k →
    slice_get bs i ≡ Some (p, ps)
    → k < length ps
within_here bs i k p ps w e = subst (λ (l : List Pair). k < length l) (one_block bs i w.0 p w.1 ps w.2 e).1 w.3
