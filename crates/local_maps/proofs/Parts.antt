-- The first and the last of some pairs, and those that are taken of them.
use Rattle.std.proofs.Common.{◌≡◌, ℕ, zero, suc, min, max, ◌+◌, ◌-◌, ◌^◌, ◌<◌, Bool, true, false, cond, leb, ltb, List}
use Rattle.std.proofs.Common.{[], ◌∷◌, ◌++◌, length, take, drop, reverse, filter, Some, slice_get, refl, sym, ◌∙◌, ap}
use Rattle.std.proofs.Common.{inl, inr, add-one, arith}
use Rattle.std.proofs.lemmas.Bool.{le-leb, ltb-true, cases_lt}
use Rattle.std.proofs.lemmas.Bool.Decides.{nat_tests}
use Rattle.std.proofs.lemmas.Option.{same_Some, none-some}
use Rattle.std.proofs.lemmas.List.{take-append-drop, length-take, length-drop, length-reverse, reverse-append}
use Rattle.std.proofs.lemmas.List.{reverse-reverse, take_all}
use Rattle.std.proofs.Math.Seq.{take-append_seam}
use Rattle.kom_types.specs.declared.texts.LocalText.{LocalText}
use Rattle.kom_types.specs.declared.texts.Block.{Block}
use Rattle.kom_types.specs.declared.texts.Mapping.{Mapping}
use Rattle.kom_types.specs.Mappings.{after_last, block_of, end_below, mapping_up, mapping_down}
use Rattle.local_maps.specs.Pairs.{AllBelow, IsRising, from_on, below}
use Rattle.local_maps.specs.Parts.{AreTaken, mapping_below}
use Rattle.local_maps.proofs.Pairs.{all_filter}

pub after_last-last : (least : ℕ) (pairs : List LocalText) (pair : LocalText) →
    slice_get pairs (length pairs - 1) ≡ Some pair → after_last least pairs ≡ pair.local + 1
after_last-last least [] pair last = absurd (none-some pair last)
after_last-last least (one ∷ []) pair last = ap (λ p. p.local + 1) (same_Some one pair last)
after_last-last least (one ∷ two ∷ more) pair last =
    after_last-last (one.local + 1) (two ∷ more) pair
    (ap (slice_get (one ∷ two ∷ more)) (step (length more)) ∙ last)
  where
    step : (n : ℕ) → suc (suc n - 1) ≡ suc (suc n) - 1
    step n = omega arith

pub from_on-zero : (pairs : List LocalText) → from_on 0 pairs ≡ pairs
from_on-zero [] = refl
from_on-zero (pair ∷ pairs) =
    ap (λ b. cond b (pair ∷ from_on 0 pairs) (from_on 0 pairs)) (le-leb 0 pair.local (omega arith))
    ∙ ap (λ l. pair ∷ l) (from_on-zero pairs)

-- those that are shown of rising pairs rise
pub rising-filter : (test : LocalText → Bool) (pairs : List LocalText) → IsRising pairs → IsRising (filter test pairs)
rising-filter test [] rising = tt
rising-filter test (pair ∷ pairs) rising =
    elim (test pair) as (λ b. IsRising (cond b (pair ∷ filter test pairs) (filter test pairs))) [
      | true ↦ (all_filter (λ p. pair.local < p.local) test pairs rising.0, rising-filter test pairs rising.1)
      | false ↦ rising-filter test pairs rising.1
    ]

-- where another pair follows those that are taken, the number after the last of them is one that it has or less
pub after_last-take : (bound first count : ℕ) (pairs : List LocalText) → IsRising pairs → AllBelow bound pairs →
    first < bound → count < length pairs → after_last first (take count pairs) < bound
after_last-take bound first zero pairs rising fits low more = low
after_last-take bound first (suc count) [] rising fits low more = absurd (omega arith)
after_last-take bound first (suc count) (one ∷ []) rising fits low more = absurd (omega arith)
after_last-take bound first (suc count) (one ∷ two ∷ pairs) rising fits low more =
    after_last-take bound (one.local + 1) count (two ∷ pairs) rising.1 fits.1
    (omega (arith, rising.0.0, fits.1.0)) (omega arith)

module _ {X : Type 0} where
  -- the last n of a list, from its end
  pub taken_back : (n : ℕ) (xs : List X) → reverse (take n (reverse xs)) ≡ drop (length xs - n) xs
  taken_back n xs = elim (cases_lt (length xs) n) [
    | inl few ↦
        ap reverse (take_all n (reverse xs) (omega (arith, length-reverse xs)))
        ∙ reverse-reverse xs
        ∙ ap (λ k. drop k xs) {x = 0} (omega arith)
    | inr enough ↦
        let low = take (length xs - n) xs in
        let high = drop (length xs - n) xs in
        let turned : reverse xs ≡ reverse high ++ reverse low =
        ap reverse (sym (take-append-drop (length xs - n) xs)) ∙ reverse-append low high in
        let count : n ≡ length (reverse high) =
        omega (arith, length-reverse high, length-drop (length xs - n) xs) in
        ap reverse (ap (take n) turned ∙ ap (λ k. take k (reverse high ++ reverse low)) count
        ∙ take-append_seam (reverse high) (reverse low))
        ∙ reverse-reverse high
  ]

  take-take-suc : (n : ℕ) (xs : List X) → take n (take (suc n) xs) ≡ take n xs
  take-take-suc zero xs = refl
  take-take-suc (suc n) [] = refl
  take-take-suc (suc n) (x ∷ xs) = ap (λ l. x ∷ l) (take-take-suc n xs)

  -- one more was taken than is given
  pub take-one_more : (n : ℕ) (xs taken : List X) → taken ≡ take (n + 1) xs → take n taken ≡ take n xs
  take-one_more n xs taken is = ap (take n) (is ∙ ap (λ k. take k xs) (add-one n)) ∙ take-take-suc n xs

  pub more-one_more : (n : ℕ) (xs taken : List X) → taken ≡ take (n + 1) xs → ltb n (length taken) ≡ ltb n (length xs)
  more-one_more n xs taken is = by (length taken) (length xs) (ap length is ∙ length-take (n + 1) xs)
    where
      by : (some all : ℕ) → some ≡ min (n + 1) all → ltb n some ≡ ltb n all
      by some all is = grind (arith, nat_tests)

-- a mapping upwards of what was taken
pub mapping_up-taken : (shown : List LocalText) (next first count : ℕ) (taken : List LocalText) (later : Bool)
    (end : ℕ) (block : Block) → AreTaken shown first count taken later →
    end ≡ cond later (after_last first taken) (max first next) → block ≡ block_of taken →
    ◌≡◌ {A = Mapping} (record { begin = first; end = end; later_texts_exist = later; block = block })
    (mapping_up shown next first count)
unfolding mapping_up
mapping_up-taken shown next first count taken later end block are e b = rw (e, b, are.more, are.pairs) refl

-- the number after the last that was taken is within range where more are shown
pub after_last-taken : (shown : List LocalText) (first count : ℕ) (taken : List LocalText) →
    AreTaken shown first count taken true → first < 2 ^ 32 → after_last first taken < 2 ^ 32
after_last-taken shown first count taken are low =
    rw are.pairs
    (after_last-take (2 ^ 32) first count (from_on first shown)
    (rising-filter (λ pair. leb first pair.local) shown are.rising)
    (all_filter (λ pair. pair.local < 2 ^ 32) (λ pair. leb first pair.local) shown are.fits)
    low (ltb-true _ _ (sym are.more)))

-- a mapping downwards of what was taken
pub mapping_down-taken : (pairs : List LocalText) (next ceiling count end : ℕ) (taken : List LocalText) (later : Bool) →
    end ≡ end_below next ceiling →
    taken ≡ drop (length (below (end_below next ceiling) pairs) - count) (below (end_below next ceiling) pairs) →
    later ≡ ltb count (length (below (end_below next ceiling) pairs)) →
    mapping_below taken later end ≡ mapping_down pairs next ceiling count
unfolding mapping_down
mapping_down-taken pairs next ceiling count end taken later e t l = rw (e, t, l) refl
