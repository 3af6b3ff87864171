-- What putting a name and taking one out make of the order.
use Rattle.std.proofs.Common.{◌≡◌, ℕ, ◌+◌, ◌<◌, ◌≤◌, ◌⊎◌, Bool, true, false, cond, not, eqb, List, [], length, get_or}
use Rattle.std.proofs.Common.{filter, insert, count_by, Option, Some, None, is_some, unwrap_or, is_lt, Ordering, Less}
use Rattle.std.proofs.Common.{Equal, Greater, refl, sym, ap, ap₂, add-zero, ◌∙◌, inl, inr, true≢false, arith, Contains}
use Rattle.std.specs.List.Sorted.{IsPartitionPoint}
use Rattle.std.specs.Map.{lookup}
use Rattle.std.specs.Ordering.{ordering_reverse}
use Rattle.std.proofs.lemmas.Bool.{cases_eq, not-true, eq-eqb, ne_eqb, cond-true, cond-false}
use Rattle.std.proofs.lemmas.List.Elements.{filter_passes, All-contains, Contains-get_or}
use Rattle.std.proofs.lemmas.List.Kept.{IsSortedBy-filter}
use Rattle.std.proofs.lemmas.List.Sorted.{ranks_by}
use Rattle.std.proofs.lemmas.List.Sums.{sum_by-insert}
use Rattle.name_lookup.specs.declared.order.By.TheVariants.{Name}
use Rattle.name_lookup.specs.NamedRows.{clash_of, without_name}
use Rattle.name_lookup.specs.Order.{name_cmp, name_in, is_below, rows_of, IsByName, StandsOnce, IsOrder}
use Rattle.name_lookup.proofs.Clashes.{IsFree-from_taken, NoneClash-with_name, NoneClash-filter}
use Rattle.name_lookup.proofs.Lists.{count_by-filter, IsSortedBy-agree, IsSortedBy-insert}
use Rattle.name_lookup.proofs.Orders.{name_total}
use Rattle.name_lookup.proofs.Rows.{IsRising-rows_of, rows_put, rows_removed}

below_back : (low high : List ℕ) → is_lt (name_cmp low high) ≡ true → is_lt (name_cmp high low) ≡ false
below_back low high below =
    let back : name_cmp high low ≡ ordering_reverse (name_cmp low high) = name_total.antisymm high low in
    ap is_lt back ∙ by (name_cmp low high) below
  where
    by : (order : Ordering) → is_lt order ≡ true → is_lt (ordering_reverse order) ≡ false
    by Less lt = refl
    by Equal lt = absurd (true≢false (sym lt))
    by Greater lt = absurd (true≢false (sym lt))

-- without a number
abbrev pub others : ℕ → List ℕ → List ℕ
others number order = filter (λ one. not (eqb number one)) order

-- the entries with this name of a number, or without one
abbrev pub Updated : ℕ → Option (List ℕ) → List (ℕ × List ℕ) → List (ℕ × List ℕ) → Type 0
Updated number name old new = (asked : ℕ) →
    lookup (eqb asked) new ≡ cond (eqb number asked) name (lookup (eqb asked) old)

others_are : (number : ℕ) (order : List ℕ) (one : ℕ) → Contains (others number order) one → eqb number one ≡ false
others_are number order one there =
    not-true (eqb number one) (All-contains (λ x. not (eqb number x) ≡ true) (others number order) one
    (filter_passes (λ x. not (eqb number x)) order) there)

pub IsByName-filtered : (number : ℕ) (entries : List (ℕ × List ℕ)) (order : List ℕ) → IsByName entries order →
    IsByName entries (others number order)
IsByName-filtered number entries order sorted =
    let key : ℕ → List ℕ = name_in entries in
    IsSortedBy-filter (λ x y. is_lt (name_cmp (key x) (key y))) (ranks_by name_total key)
    (λ one. not (eqb number one)) order sorted

module _ (number : ℕ) (name : Option (List ℕ)) (old new : List (ℕ × List ℕ)) (updated : Updated number name old new)
  where
    name_in-other : (one : ℕ) → eqb number one ≡ false → name_in new one ≡ name_in old one
    name_in-other one other =
        ap (λ known. unwrap_or known []) (updated one ∙ cond-false (eqb number one) name (lookup (eqb one) old) other)

    IsByName-others : (order : List ℕ) → IsByName old order → IsByName new (others number order)
    IsByName-others order sorted =
        IsSortedBy-agree (λ x y. is_lt (name_cmp (name_in old x) (name_in old y)))
        (λ x y. is_lt (name_cmp (name_in new x) (name_in new y))) (others number order)
        (λ x y at at'. ap₂ (λ m n. is_lt (name_cmp m n))
        (name_in-other x (others_are number order x at)) (name_in-other y (others_are number order y at')))
        (IsByName-filtered number old order sorted)

    count_by-others : (order : List ℕ) → StandsOnce old order → (asked : ℕ) → count_by (eqb asked) (others number order)
        ≡ cond (eqb number asked) 0 (cond (is_some (lookup (eqb asked) old)) 1 0)
    count_by-others order once asked =
        count_by-filter asked (λ one. not (eqb number one)) order ∙ by (eqb number asked) (once asked)
      where
        by : (is : Bool) → count_by (eqb asked) order ≡ cond (is_some (lookup (eqb asked) old)) 1 0 →
            cond (not is) (count_by (eqb asked) order) 0 ≡ cond is 0 (cond (is_some (lookup (eqb asked) old)) 1 0)
        by true counted = refl
        by false counted = counted

-- a name was taken out
module _ (number : ℕ) (old new : List (ℕ × List ℕ)) (updated : Updated number None old new) where
  StandsOnce-others : (order : List ℕ) → StandsOnce old order → StandsOnce new (others number order)
  StandsOnce-others order once asked =
      count_by-others number None old new updated order once asked ∙ by (eqb number asked) (updated asked)
    where
      by : (is : Bool) → lookup (eqb asked) new ≡ cond is None (lookup (eqb asked) old) →
          ◌≡◌ {A = ℕ} (cond is 0 (cond (is_some (lookup (eqb asked) old)) 1 0))
          (cond (is_some (lookup (eqb asked) new)) 1 0)
      by true known = ap (λ k. cond {A = ℕ} (is_some k) 1 0) (sym known)
      by false known = ap (λ k. cond {A = ℕ} (is_some k) 1 0) (sym known)

  pub IsOrder-removed : (order : List ℕ) → IsOrder old order → IsOrder new (others number order)
  IsOrder-removed order is = record {
    by_name = IsByName-others number None old new updated order is.by_name;
    once = StandsOnce-others order is.once;
    none_clash = rw (rows_removed number old new updated) (NoneClash-filter _ (rows_of old) is.none_clash);
  }

-- a name was put
module _ (number : ℕ) (name : List ℕ) (old new : List (ℕ × List ℕ)) (updated : Updated number (Some name) old new)
    (order : List ℕ) (place : ℕ) (within : place ≤ length (others number order)) where
  StandsOnce-insert : StandsOnce old order → StandsOnce new (insert (others number order) place number)
  StandsOnce-insert once asked =
      sum_by-insert (λ x. cond (eqb asked x) 1 0) (others number order) place number
      ∙ ap (λ n. n + cond (eqb asked number) 1 0) (count_by-others number (Some name) old new updated order once asked)
      ∙ by (cases_eq number asked) (updated asked)
    where
      by : (number ≡ asked) ⊎ (number ≡ asked → ⊥) →
          lookup (eqb asked) new ≡ cond (eqb number asked) (Some name) (lookup (eqb asked) old) →
          cond (eqb number asked) 0 (cond (is_some (lookup (eqb asked) old)) 1 0) + cond (eqb asked number) 1 0
          ≡ cond (is_some (lookup (eqb asked) new)) 1 0
      by (inl same) known =
          rw (known, eq-eqb number asked same, eq-eqb asked number (sym same)) refl
      by (inr other) known =
          rw (known, ne_eqb number asked other, ne_eqb asked number (λ e. other (sym e))) (add-zero _)

  IsByName-insert : IsByName old order →
      IsPartitionPoint (λ one. is_below old Name name one ≡ true)
      (λ one. is_below old Name name one ≡ false) (others number order) place →
      IsByName new (insert (others number order) place number)
  IsByName-insert sorted point =
      let rest = others number order in
      let itself : name_in new number ≡ name =
      ap (λ known. unwrap_or known [])
      (updated number
      ∙ cond-true (eqb number number) (Some name) (lookup (eqb number) old) (eq-eqb number number refl)) in
      let other : (k : ℕ) (d : ℕ) → k < length rest → name_in old (get_or rest k d) ≡ name_in new (get_or rest k d) =
      λ k d lt. sym (name_in-other number (Some name) old new updated (get_or rest k d)
      (others_are number order (get_or rest k d) (Contains-get_or rest k d lt))) in
      IsSortedBy-insert (λ x y. is_lt (name_cmp (name_in new x) (name_in new y))) rest number place
      within (IsByName-others number (Some name) old new updated order sorted)
      (λ k d low. below_back (name_in new (get_or rest k d)) (name_in new number)
      (rw (← other k d (omega arith), itself) (point.0 k d (omega arith) low)))
      (λ d inside. rw (← other place d inside, itself) (point.1 place d (omega arith) inside))

  pub IsOrder-put : IsOrder old order → clash_of name (without_name number (rows_of old)) ≡ None →
      IsPartitionPoint (λ one. is_below old Name name one ≡ true)
      (λ one. is_below old Name name one ≡ false) (others number order) place →
      IsOrder new (insert (others number order) place number)
  IsOrder-put is free point = record {
    by_name = IsByName-insert is.by_name point;
    once = StandsOnce-insert is.once;
    none_clash = rw (rows_put number name old new updated)
        (NoneClash-with_name number name (rows_of old) (IsRising-rows_of old) is.none_clash
        (IsFree-from_taken number name (rows_of old) free));
  }
