-- What stands at the place that a search finds.
use Rattle.std.proofs.Common.{◌≡◌, ℕ, zero, suc, ◌+◌, ◌<◌, ◌≤◌, true, false, leb, ltb, List, [], ◌∷◌, length, get_or}
use Rattle.std.proofs.Common.{take, drop, Option, Some, None, SomeIff, MatchOption, IsNone, IfSome, ◌↔◌, refl, sym, ap}
use Rattle.std.proofs.Common.{◌∙◌, subst, inl, inr, arith}
use Rattle.std.specs.List.{AllWithin}
use Rattle.std.specs.List.Sorted.{IsPartitionedBy, IsPartitionPoint, IsNonDecreasingBy}
use Rattle.std.proofs.lemmas.Bool.{cases_lt, false≢true}
use Rattle.std.proofs.lemmas.Bool.Decides.{nat_tests}
use Rattle.std.proofs.lemmas.List.{take-append-drop, drop_more, drop_all}
use Rattle.std.proofs.lemmas.List.Folds.{list_any-append}
use Rattle.std.proofs.lemmas.List.Sorted.{IsPartitionedBy-ltb}
use Rattle.kom_types.specs.declared.memberships.ReadRange.{ReadRange}
use Rattle.read_ranges.specs.Numbers.{RiseFrom, AreRanges, greatest, union_of, IsReadFrom, IsNextUnread}
use Rattle.read_ranges.specs.Places.{IsPlaceOf, EndBelow, EndFrom}
use Rattle.read_ranges.proofs.Rises.{is_in_range, holds_in, holds_below, held_behind, holds_first, holds_gap, after}
use Rattle.read_ranges.proofs.Rises.{rise_back}
use Rattle.read_ranges.proofs.Sets.{contains-union_of}

-- the list from a place on, by what stands there
pub from_place : (xs : List ReadRange) (at : ℕ) (x : ReadRange) → at < length xs → x ≡ get_or xs at x →
    drop at xs ≡ x ∷ drop (at + 1) xs
from_place xs at x within read = drop_more xs at x within ∙ ap (λ y. y ∷ drop (at + 1) xs) (sym read)

-- after the ranges that end too early the others tell
pub holds_back : (xs : List ReadRange) (n at m : ℕ) → IsPlaceOf xs n at → n ≤ m →
    holds_in xs m ≡ holds_in (drop at xs) m
holds_back xs n at m place le =
    ap (λ ys. holds_in ys m) (sym (take-append-drop at xs)) ∙ list_any-append (is_in_range m) (take at xs) (drop at xs)
    ∙ rw (held_behind n m (take at xs) place.below le) refl

module _ (xs : List ReadRange) (rise : AreRanges xs) (n at : ℕ) (place : IsPlaceOf xs n at) where
  rise_drop : RiseFrom (after 1 (take at xs)) (drop at xs)
  rise_drop = rise_back 1 (take at xs) (drop at xs) (rw take-append-drop rise)

  -- past all ranges nothing is held
  pub holds_past_all : (m : ℕ) → n ≤ m → length xs ≤ at → holds_in xs m ≡ false
  holds_past_all m le past = holds_back xs n at m place le ∙ rw (drop_all at xs past) refl

  module _ (x : ReadRange) (within : at < length xs) (read : x ≡ get_or xs at x) where
    back : drop at xs ≡ x ∷ drop (at + 1) xs
    back = from_place xs at x within read

    rise_at : RiseFrom (after 1 (take at xs)) (x ∷ drop (at + 1) xs)
    rise_at = rw back at rise_drop

    ends_from : n ≤ x.last
    ends_from = let from : EndFrom n (x ∷ drop (at + 1) xs) = subst (EndFrom n) back place.from in from.0

    -- at the place n is held exactly if the range there has begun
    pub holds_at : holds_in xs n ≡ leb x.first n
    holds_at = holds_back xs n at n place (omega arith) ∙ rw back (elim (cases_lt n x.first) [
      | inl lt ↦ holds_below x.first (x ∷ drop (at + 1) xs) n (omega arith, rise_at.1, rise_at.2, rise_at.3) lt
          ∙ grind (arith, nat_tests)
      | inr le ↦ holds_first x (drop (at + 1) xs) n le ends_from ∙ grind (arith, nat_tests)
    ])

    -- the numbers of the range there are held from n on, and the one after its end is not
    pub holds_up_to_end : (m : ℕ) → x.first ≤ n → n ≤ m → m ≤ x.last → holds_in xs m ≡ true
    holds_up_to_end m from le to = holds_back xs n at m place le
        ∙ rw back (holds_first x (drop (at + 1) xs) m (omega arith) to)

    pub holds_after_end : holds_in xs (x.last + 1) ≡ false
    holds_after_end = holds_back xs n at (x.last + 1) place (omega (arith, ends_from))
        ∙ rw back (holds_gap _ x (drop (at + 1) xs) rise_at)

-- the answer of a search for the next unread number, as its two clauses say it
pub next_exact : (xs : List ReadRange) (from : ℕ) (r : Option ℕ) →
    MatchOption r (IsReadFrom (union_of xs) from) (IsNextUnread (union_of xs) from) →
    IfSome r (IsNextUnread (union_of xs) from) × (IsNone r ↔ IsReadFrom (union_of xs) from)
next_exact xs from None read = (tt, (λ _. read, λ _. refl))
next_exact xs from (Some n) next = (
  next,
  (
    λ e. absurd (false≢true (sym e)),
    λ read. absurd
        (next.unread (read n next.from_here next.in_bounds)),
  ),
)

-- later ranges end later
end_at_least : (a : ℕ) (xs : List ReadRange) (j : ℕ) (d : ReadRange) → RiseFrom a xs → j < length xs →
    a ≤ (get_or xs j d).last
end_at_least a [] j d rise lt = absurd (omega arith)
end_at_least a (x ∷ xs) zero d rise lt = omega arith
end_at_least a (x ∷ xs) (suc j) d rise lt = omega (arith, end_at_least (x.last + 2) xs j d rise.3 (omega arith))

ends_rise : (a : ℕ) (xs : List ReadRange) → RiseFrom a xs → IsNonDecreasingBy (λ r. r.last) xs
ends_rise a [] rise i j d le lt = absurd (omega arith)
ends_rise a (x ∷ xs) rise zero zero d le lt = omega arith
ends_rise a (x ∷ xs) rise zero (suc j) d le lt = omega (arith, end_at_least (x.last + 2) xs j d rise.3 (omega arith))
ends_rise a (x ∷ xs) rise (suc i) zero d le lt = absurd (omega arith)
ends_rise a (x ∷ xs) rise (suc i) (suc j) d le lt = ends_rise (x.last + 2) xs rise.3 i j d (omega arith) (omega arith)

-- so the test of halving goes over once
pub ends_parted : (xs : List ReadRange) (n : ℕ) → AreRanges xs → IsPartitionedBy (λ r. ltb r.last n) xs
ends_parted xs n rise = IsPartitionedBy-ltb (λ r. r.last) xs n (ends_rise 1 xs rise)

below_take : (n : ℕ) (xs : List ReadRange) (at : ℕ) → at ≤ length xs → AllWithin (λ r. ltb r.last n ≡ true) xs 0 at →
    EndBelow n (take at xs)
below_take n xs zero le all = tt
below_take n [] (suc at) le all = tt
below_take n (x ∷ xs) (suc at) le all = (
  grind (arith, nat_tests, all 0 x (omega arith) (omega arith)),
  below_take n
      xs at (omega arith) (λ k d low high. all (suc k) d (omega arith) (omega arith)),
)

from_all : (n : ℕ) (xs : List ReadRange) → AllWithin (λ r. ltb r.last n ≡ false) xs 0 (length xs) → EndFrom n xs
from_all n [] all = tt
from_all n (x ∷ xs) all = (
  grind (arith, nat_tests, all 0 x (omega arith) (omega arith)),
  from_all n xs
      (λ k d low high. all (suc k) d (omega arith) (omega arith)),
)

from_drop : (n : ℕ) (xs : List ReadRange) (at : ℕ) → AllWithin (λ r. ltb r.last n ≡ false) xs at (length xs) →
    EndFrom n (drop at xs)
from_drop n xs zero all = from_all n xs all
from_drop n [] (suc at) all = tt
from_drop n (x ∷ xs) (suc at) all = from_drop n xs at (λ k d low high. all (suc k) d (omega arith) (omega arith))

-- what halving finds
pub place_from_point : (xs : List ReadRange) (n at : ℕ) → at ≤ length xs →
    IsPartitionPoint (λ r. ltb r.last n ≡ true) (λ r. ltb r.last n ≡ false) xs at → IsPlaceOf xs n at
place_from_point xs n at within point = record {
  within = within;
  below = below_take n xs at within point.0;
  from =
      from_drop n xs at point.1;
}

module _ (xs : List ReadRange) (rise : AreRanges xs) (n at : ℕ) (place : IsPlaceOf xs n at) where
  -- where the range at the place has not begun, n itself is the next unread number
  pub next_here : holds_in xs n ≡ false → n ≤ greatest → IsNextUnread (union_of xs) n n
  next_here free fits = record {
    from_here = omega arith;
    in_bounds = fits;
    unread = λ held. false≢true (sym (contains-union_of xs n ∙ free) ∙ held);
    read_before = λ m from below. absurd (omega arith);
  }

  module _ (x : ReadRange) (within : at < length xs) (read : x ≡ get_or xs at x) (begun : x.first ≤ n) where
    -- where it has, the number after its end is, if there is one
    pub next_after : x.last + 1 ≤ greatest → IsNextUnread (union_of xs) n (x.last + 1)
    next_after fits = record {
      from_here = omega (arith, ends_from xs rise n at place x within read);
      in_bounds = fits;
      unread = λ held. false≢true (sym (contains-union_of xs (x.last + 1)
          ∙ holds_after_end xs rise n at place x within read) ∙ held);
      read_before = λ m from below. contains-union_of xs m
          ∙ holds_up_to_end xs rise n at place x within read m begun from (omega arith);
    }

    pub none_after : greatest ≤ x.last → IsReadFrom (union_of xs) n
    none_after last m from to = contains-union_of xs m
        ∙ holds_up_to_end xs rise n at place x within read m begun from (omega arith)

    -- the answer of the code there
    pub next_after_end : (r : Option ℕ) → SomeIff r (x.last + 1 < 4294967296) (x.last + 1) →
        MatchOption r (IsReadFrom (union_of xs) n) (IsNextUnread (union_of xs) n)
    next_after_end None full = none_after (omega (arith, full))
    next_after_end (Some m) next = rw next.1 (next_after (omega (arith, next.0)))
