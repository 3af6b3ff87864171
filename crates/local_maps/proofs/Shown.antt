-- What a caller that shows only some of the pairs has taken, for the mapping upwards of them.
use Rattle.std.proofs.Common.{◌≡◌, ℕ, ◌+◌, ◌^◌, ◌<◌, ◌≤◌, Bool, true, false, cond, leb, ltb, List, [], ◌∷◌, ◌++◌}
use Rattle.std.proofs.Common.{length, take, filter, refl, sym, ◌∙◌, ap, arith}
use Rattle.std.proofs.lemmas.Bool.{lt-ltb, le-ltb}
use Rattle.std.proofs.lemmas.List.{append_assoc, append-nil, length-append, take_all}
use Rattle.std.proofs.lemmas.List.Elements.{filter-append}
use Rattle.std.proofs.Math.Seq.{take-append_seam}
use Rattle.kom_types.specs.declared.texts.LocalText.{LocalText}
use Rattle.local_maps.specs.Pairs.{AllBelow, IsRising, from_on}
use Rattle.local_maps.specs.Parts.{AreTaken}
use Rattle.local_maps.proofs.Pairs.{all_filter}
use Rattle.local_maps.proofs.Parts.{rising-filter, take-one_more, more-one_more}

-- of two tests either may come first
pub filter-filter_comm : {X : Type 0} (p q : X → Bool) (xs : List X) →
    filter p (filter q xs) ≡ filter q (filter p xs)
filter-filter_comm p q [] = refl
filter-filter_comm p q (x ∷ xs) = by (p x) (q x) refl refl (filter-filter_comm p q xs)
  where
    by : (b c : Bool) → p x ≡ b → q x ≡ c → filter p (filter q xs) ≡ filter q (filter p xs) →
        filter p (filter q (x ∷ xs)) ≡ filter q (filter p (x ∷ xs))
    by true true is_p is_q same = rw (is_p, is_q, is_p) (ap (λ l. x ∷ l) same)
    by true false is_p is_q same = rw (is_p, is_q) same
    by false true is_p is_q same = rw (is_p, is_q, is_p) same
    by false false is_p is_q same = rw (is_p, is_q) same

-- the pairs that are shown from a local number on are those of the pairs from there on
pub from_on-filter : (test : LocalText → Bool) (first : ℕ) (pairs : List LocalText) →
    from_on first (filter test pairs) ≡ filter test (from_on first pairs)
from_on-filter test first pairs = filter-filter_comm (λ pair. leb first pair.local) test pairs

-- the first `count` of them, and whether there are more
pub are_taken-filter : (test : LocalText → Bool) (pairs : List LocalText) (first count : ℕ)
    (taken : List LocalText) (later : Bool) → IsRising pairs → AllBelow (2 ^ 32) pairs →
    taken ≡ take count (filter test (from_on first pairs)) →
    later ≡ ltb count (length (filter test (from_on first pairs))) →
    AreTaken (filter test pairs) first count taken later
are_taken-filter test pairs first count taken later rising fits is more =
    let same = sym (from_on-filter test first pairs) in
    record {
      pairs = is ∙ ap (take count) same;
      more = more ∙ ap (λ l. ltb count (length l)) same;
      rising = rising-filter test pairs rising;
      fits = all_filter (λ pair. pair.local < 2 ^ 32) test pairs fits;
    }

-- where one more was taken than is told, if there is one
pub are_taken-one_more : (test : LocalText → Bool) (pairs : List LocalText) (first count : ℕ)
    (walked : List LocalText) → IsRising pairs → AllBelow (2 ^ 32) pairs →
    walked ≡ take (count + 1) (filter test (from_on first pairs)) →
    AreTaken (filter test pairs) first count (take count walked) (ltb count (length walked))
are_taken-one_more test pairs first count walked rising fits is =
    are_taken-filter test pairs first count (take count walked) (ltb count (length walked)) rising fits
    (take-one_more count (filter test (from_on first pairs)) walked is)
    (more-one_more count (filter test (from_on first pairs)) walked is)

-- How far a walk has come from a local number on: `left` is not walked yet, and of what was before it `taken` is
-- shown, no more than `count`.
pub record IsWalked (test : LocalText → Bool) (pairs : List LocalText) (first count : ℕ)
    (taken left : List LocalText) : Type 0 where
  pub done : List LocalText
  pub from : from_on first pairs ≡ done ++ left
  pub is : taken ≡ filter test done
  pub few : length taken ≤ count

module _ (test : LocalText → Bool) (pairs : List LocalText) (first count : ℕ) where
  -- it begins
  pub walk-begun : IsWalked test pairs first count [] (from_on first pairs)
  walk-begun = record { done = []; from = refl; is = refl; few = omega arith }

  module _ (taken left : List LocalText) (walk : IsWalked test pairs first count taken left) where
    module _ (pair : LocalText) (rest : List LocalText) (next : left ≡ pair ∷ rest) where
      further : from_on first pairs ≡ walk.done ++ pair ∷ [] ++ rest
      further =
          walk.from ∙ ap (λ l. walk.done ++ l) next ∙ sym (append_assoc walk.done (pair ∷ []) rest)

      kept : filter test (walk.done ++ pair ∷ []) ≡ taken ++ cond (test pair) (pair ∷ []) []
      kept = filter-append test walk.done (pair ∷ []) ∙ ap (λ l. l ++ cond (test pair) (pair ∷ []) []) (sym walk.is)

      -- it passes a pair that is not shown
      pub walk-hidden : test pair ≡ false → IsWalked test pairs first count taken rest
      walk-hidden hidden = record {
        done = walk.done ++ pair ∷ [];
        from = further;
        is = sym (kept ∙ ap (λ b. taken ++ cond b (pair ∷ []) []) hidden ∙ append-nil taken);
        few = walk.few;
      }

      -- it takes one that is
      pub walk-taken : test pair ≡ true → length taken < count →
          IsWalked test pairs first count (taken ++ pair ∷ []) rest
      walk-taken shown room = record {
        done = walk.done ++ pair ∷ [];
        from = further;
        is = sym (kept ∙ ap (λ b. taken ++ cond b (pair ∷ []) []) shown);
        few = omega (arith, room, length-append taken (pair ∷ []));
      }

      -- it stops at one more that is
      pub walk-stopped : IsRising pairs → AllBelow (2 ^ 32) pairs → test pair ≡ true → length taken ≡ count →
          AreTaken (filter test pairs) first count taken true
      walk-stopped rising fits shown full =
          let after = pair ∷ filter test rest in
          let all : filter test (from_on first pairs) ≡ taken ++ after =
          ap (filter test) (walk.from ∙ ap (λ l. walk.done ++ l) next)
          ∙ filter-append test walk.done (pair ∷ rest)
          ∙ ap (λ l. l ++ cond (test pair) after (filter test rest)) (sym walk.is)
          ∙ ap (λ b. taken ++ cond b after (filter test rest)) shown in
          let long : count < length (taken ++ after) = omega (arith, full, length-append taken after) in
          are_taken-filter test pairs first count taken true rising fits
          (sym (ap (take count) all ∙ ap (λ n. take n (taken ++ after)) (sym full) ∙ take-append_seam taken after))
          (sym (ap (λ l. ltb count (length l)) all ∙ lt-ltb count (length (taken ++ after)) long))

    -- it comes to the end
    pub walk-ended : left ≡ [] → IsRising pairs → AllBelow (2 ^ 32) pairs →
        AreTaken (filter test pairs) first count taken false
    walk-ended none rising fits =
        let all : filter test (from_on first pairs) ≡ taken =
        ap (filter test) (walk.from ∙ ap (λ l. walk.done ++ l) none ∙ append-nil walk.done) ∙ sym walk.is in
        are_taken-filter test pairs first count taken false rising fits
        (sym (ap (take count) all ∙ take_all count taken walk.few))
        (sym (ap (λ l. ltb count (length l)) all ∙ le-ltb count (length taken) walk.few))
