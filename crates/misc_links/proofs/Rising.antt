-- Lists of numbers that rise strictly: they are one where they have the same numbers.
use Rattle.std.proofs.Common.{◌≡◌, ℕ, suc, ◌<◌, Bool, true, false, eqb, nat_eq, List, [], ◌∷◌, length, get_or, refl}
use Rattle.std.proofs.Common.{sym, ap, ◌∙◌, subst, inl, inr, arith}
use Rattle.std.specs.List.{AllPairs, dedup}
use Rattle.std.specs.List.Sorted.{IsPermutation, IsSorted}
use Rattle.std.specs.Ordering.{nat_cmp}
use Rattle.std.specs.Cmp.{both_ways, unsigned_Decides}
use Rattle.std.specs.Set.{is_member}
use Rattle.std.proofs.lemmas.Bool.{cases_eq, cases_lt, eq-eqb, ne_eqb, false≢true}
use Rattle.std.proofs.lemmas.List.Kept.{AllPairs-from_increasing, Contains-dedup_nat, Contains-from_dedup}
use Rattle.std.proofs.lemmas.List.Sorted.{list_any-IsPermutation}
use Rattle.std.proofs.lemmas.Map.Keys.{IsStrictlyIncreasing-dedup}
use Rattle.std.proofs.lemmas.Map.Made.{is_member-Decides}

-- all are greater
abbrev pub AllAbove : ℕ → List ℕ → Type 0
AllAbove k [] = Unit {0}
AllAbove k (x ∷ xs) = (k < x) × AllAbove k xs

abbrev pub Rises : List ℕ → Type 0
Rises [] = Unit {0}
Rises (x ∷ xs) = AllAbove x xs × Rises xs

-- whether a number is in a list
abbrev pub has : List ℕ → ℕ → Bool
has xs k = is_member nat_eq xs k

above_less : (k m : ℕ) (xs : List ℕ) → k < m → AllAbove m xs → AllAbove k xs
above_less k m [] less above = tt
above_less k m (x ∷ xs) less above = (omega (arith, above.0), above_less k m xs less above.1)

pub has_none : (k : ℕ) (xs : List ℕ) → AllAbove k xs → has xs k ≡ false
has_none k [] above = refl
has_none k (x ∷ xs) above =
    let other : eqb k x ≡ false = ne_eqb k x (λ is. absurd (omega (arith, is, above.0))) in
    rw other (has_none k xs above.1)

has_first : (x : ℕ) (xs : List ℕ) → has (x ∷ xs) x ≡ true
has_first x xs = let same : eqb x x ≡ true = eq-eqb x x refl in rw same refl

has_only_above : (k x : ℕ) (xs : List ℕ) → k < x → AllAbove x xs → has (x ∷ xs) k ≡ false
has_only_above k x xs less above = has_none k (x ∷ xs) (less, above_less k x xs less above)

has_rest : (x : ℕ) (xs ys : List ℕ) → AllAbove x xs → AllAbove x ys →
    ((k : ℕ) → has (x ∷ xs) k ≡ has (x ∷ ys) k) → (k : ℕ) → has xs k ≡ has ys k
has_rest x xs ys above also same k = elim (cases_eq k x) [
  | inl is ↦
      ap (has xs) is ∙ has_none x xs above ∙ sym (has_none x ys also) ∙ sym (ap (has ys) is)
  | inr unlike ↦ let other : eqb k x ≡ false = ne_eqb k x unlike in rw other at (same k)
]

same_rising : (xs ys : List ℕ) → Rises xs → Rises ys → ((k : ℕ) → has xs k ≡ has ys k) → xs ≡ ys
same_rising [] [] up also same = refl
same_rising [] (y ∷ ys) up also same = absurd (false≢true (same y ∙ has_first y ys))
same_rising (x ∷ xs) [] up also same = absurd (false≢true (sym (same x) ∙ has_first x xs))
same_rising (x ∷ xs) (y ∷ ys) up also same = elim (cases_eq x y) [
  | inl is ↦
      let above : AllAbove x ys = subst (λ n. AllAbove n ys) (sym is) also.0 in
      let alike : (k : ℕ) → has (x ∷ xs) k ≡ has (x ∷ ys) k =
      λ k. same k ∙ ap (λ n. has (n ∷ ys) k) (sym is) in
      let rest : xs ≡ ys = same_rising xs ys up.1 also.1 (has_rest x xs ys up.0 above alike) in
      λ i. is i ∷ rest i
  | inr unlike ↦ elim (cases_lt x y) [
    | inl less ↦ absurd (false≢true (sym (has_only_above x y ys less also.0) ∙ sym (same x) ∙ has_first x xs))
    | inr le ↦
        let less : y < x = omega (arith, le, unlike) in
        absurd (false≢true (sym (has_only_above y x xs less up.0) ∙ same y ∙ has_first y ys))
  ]
]

-- ---- numbers that are sorted, each kept once

above_from : (x : ℕ) (xs : List ℕ) → ((i : ℕ) (d : ℕ) → i < length xs → x < get_or xs i d) → AllAbove x xs
above_from x [] from = tt
above_from x (y ∷ xs) from = (from 0 y (omega arith), above_from x xs (λ i d below. from (suc i) d (omega arith)))

rises_from : (xs : List ℕ) → AllPairs (λ x y. x < y) xs → Rises xs
rises_from [] up = tt
rises_from (x ∷ xs) up = (
  above_from x xs (λ i d below. up 0 (suc i) d (omega arith) (omega arith)),
  rises_from xs (λ i j d less below. up (suc i) (suc j) d (omega arith) (omega arith)),
)

has-dedup : (xs : List ℕ) (k : ℕ) → has (dedup eqb xs) k ≡ has xs k
has-dedup xs k =
    let kept = is_member-Decides unsigned_Decides (dedup eqb xs) k in
    let all = is_member-Decides unsigned_Decides xs k in
    both_ways (has (dedup eqb xs) k) (has xs k)
    (λ is. all.1 (Contains-from_dedup eqb xs k (kept.0 is)))
    (λ is. kept.1 (Contains-dedup_nat xs k (all.0 is)))

-- a list that rises and has the numbers of another is what sorting leaves of that one
pub sorted_once : (places given sorted : List ℕ) → Rises places → ((k : ℕ) → has given k ≡ has places k) →
    IsPermutation given sorted → IsSorted nat_cmp sorted → dedup eqb sorted ≡ places
sorted_once places given sorted up same moved is_sorted =
    same_rising (dedup eqb sorted) places
    (rises_from (dedup eqb sorted)
    (AllPairs-from_increasing (dedup eqb sorted) (IsStrictlyIncreasing-dedup sorted is_sorted)))
    up
    (λ k. has-dedup sorted k ∙ sym (list_any-IsPermutation (nat_eq k) given sorted moved) ∙ same k)
