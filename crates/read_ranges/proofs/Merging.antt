-- One step of making those ranges one that touch, where their list stands.
use Rattle.std.proofs.Common.{◌≡◌, ◌≢◌, ℕ, ◌+◌, ◌<◌, ◌≤◌, List, [], ◌∷◌, ◌++◌, length, take, drop, set}
use Rattle.std.proofs.Common.{sym, ap, ◌∙◌, subst, append_assoc, arith}
use Rattle.std.proofs.lemmas.List.{drop_more, drop-set-lt, take_more_set}
use Rattle.kom_types.specs.declared.memberships.ReadRange.{ReadRange}
use Rattle.read_ranges.specs.Numbers.{range, greatest}
use Rattle.read_ranges.specs.Merged.{merge_all}
use borrow.Author.Count.{below_more}
use Rattle.read_ranges.specs.ListFault.{range_at, EndWithinBelow}
use Rattle.read_ranges.proofs.Lists.{merged_touching, merged_apart}

module _ (xs whole : List ReadRange) (count at : ℕ) (last : ReadRange) (within : at < length xs)
    (made : take count xs ++ merge_all (last ∷ drop at xs) ≡ whole) where
  here : drop at xs ≡ range_at xs at ∷ drop (at + 1) xs
  here = drop_more xs at (range 0 0) within

  made_here : take count xs ++ merge_all (last ∷ range_at xs at ∷ drop (at + 1) xs) ≡ whole
  made_here = ap (λ ys. take count xs ++ merge_all (last ∷ ys)) (sym here) ∙ made

  -- the range at the place touches the last one
  pub merge_touching :
      (range_at xs at).first ≡ last.last + 1
      → take count xs ++ merge_all (range last.first (range_at xs at).last ∷ drop (at + 1) xs) ≡ whole
  merge_touching touches =
      ap (λ ys. take count xs ++ ys) (sym (merged_touching last (range_at xs at) (drop (at + 1) xs) touches))
      ∙ made_here

  -- it does not
  pub merge_apart :
      count < at → (range_at xs at).first ≢ last.last + 1
      → take (count + 1) (set xs count last) ++ merge_all (range_at xs at ∷ drop (at + 1) (set xs count last)) ≡ whole
  merge_apart before apart =
      let first = take_more_set xs count last (omega arith) in
      let back = drop-set-lt (at + 1) xs count last (omega arith) in
      rw (first, back)
      (append_assoc (take count xs) (last ∷ []) (merge_all (range_at xs at ∷ drop (at + 1) xs))
      ∙ ap (λ ys. take count xs ++ ys) (sym (merged_apart last (range_at xs at) (drop (at + 1) xs) apart))
      ∙ made_here)

module _ (xs ys : List ReadRange) (at : ℕ) (within : at < length xs) (within_others : at < length ys)
    (others : drop at xs ≡ drop at ys) where
  -- what follows the place is the same
  pub others_after : drop (at + 1) xs ≡ drop (at + 1) ys
  others_after =
      let both : range_at xs at ∷ drop (at + 1) xs ≡ range_at ys at ∷ drop (at + 1) ys =
      sym (drop_more xs at (range 0 0) within) ∙ others ∙ drop_more ys at (range 0 0) within_others in
      cc

  -- and so is what stands there
  pub range_there : range_at xs at ≡ range_at ys at
  range_there =
      let both : range_at xs at ∷ drop (at + 1) xs ≡ range_at ys at ∷ drop (at + 1) ys =
      sym (drop_more xs at (range 0 0) within) ∙ others ∙ drop_more ys at (range 0 0) within_others in
      cc

  -- also once a range before it is written
  pub others_after_set :
      (i : ℕ) (r : ReadRange) → i < at → drop (at + 1) (set xs i r) ≡ drop (at + 1) ys
  others_after_set i r before = drop-set-lt (at + 1) xs i r (omega arith) ∙ others_after

  -- a range that ends within bounds, after those that do
  pub ends_more : EndWithinBelow ys at → (range_at xs at).last ≤ greatest → EndWithinBelow ys (at + 1)
  ends_more ends end = below_more (λ k. (range_at ys k).last ≤ greatest) at ends
      (subst (λ (r : ReadRange). r.last ≤ greatest) range_there end)

-- the first range ends within bounds
pub ends_first : (xs : List ReadRange) → (range_at xs 0).last ≤ greatest → EndWithinBelow xs 1
ends_first xs end = below_more (λ k. (range_at xs k).last ≤ greatest) 0 (λ k lt. absurd (omega arith)) end
