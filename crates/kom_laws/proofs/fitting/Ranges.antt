-- Ranges with numbers more or less, of ranges that rise, rise too.
use Rattle.std.proofs.Common.{◌≡◌, ℕ, zero, suc, ◌+◌, ◌-◌, ◌<◌, ◌≤◌, Bool, true, not, ◌==◌, List, [], ◌∷◌}
use Rattle.std.proofs.Common.{◌++◌, Some, None, refl, arith, inl, inr, nat_lt}
use Rattle.std.specs.List.{AllByRecursion, filter, find}
use Rattle.std.proofs.lemmas.Bool.{cases_Bool, and_from, lt-ltb, le-leb, ltb-true, ltb-false, eqb-false}
use Rattle.kom_types.specs.declared.memberships.ReadRange.{ReadRange}
use Rattle.read_ranges.specs.Changed.{numbers_of, insert_new, mark_read, all_marked, mark_unread, rise_after}
use Rattle.read_ranges.specs.Numbers.{numbers_from, numbers_in, with_number, as_ranges}
use Rattle.read_ranges.specs.Reads.{ReadRow, is_read_of}
use Rattle.kom_model.specs.Db.{Db, read_of}
use Rattle.kom_model.specs.Whole.{IsWhole, RiseApart}

-- numbers that rise, from here on
abbrev RisesFrom : ℕ → List ℕ → Type 0
RisesFrom least [] = Unit {0}
RisesFrom least (n ∷ numbers) = (least ≤ n) × RisesFrom (n + 1) numbers

rises-lower : (least higher : ℕ) (numbers : List ℕ) → least ≤ higher → RisesFrom higher numbers →
    RisesFrom least numbers
rises-lower least higher [] low rise = tt
rises-lower least higher (n ∷ numbers) low rise = let first = rise.0 in (omega (arith, first, low), rise.1)

-- a range's numbers before those that rise after it
rises-run : (first count : ℕ) (numbers : List ℕ) → RisesFrom (first + count) numbers →
    RisesFrom first (numbers_from first count ++ numbers)
unfolding numbers_from
rises-run first zero numbers rise = rises-lower first (first + 0) numbers (omega arith) rise
rises-run first (suc count) numbers rise = (
  omega arith,
  rises-run (first + 1) count numbers
      (rises-lower (first + 1 + count) (first + suc count) numbers (omega arith) rise),
)

rises-numbers : (least : ℕ) (ranges : List ReadRange) → RiseApart least ranges → RisesFrom least (numbers_of ranges)
rises-numbers least [] rise = tt
rises-numbers least (one ∷ ranges) rise =
    let first = rise.0 in let order = rise.1 in
    rises-lower least one.first (numbers_in one ++ numbers_of ranges) first
    (rises-run one.first (one.last + 1 - one.first) (numbers_of ranges)
    (rises-lower (one.first + (one.last + 1 - one.first)) (one.last + 2) (numbers_of ranges) (omega (arith, order))
    (rises-numbers (one.last + 2) ranges rise.2)))

rises-kept : (least : ℕ) (keep : ℕ → Bool) (numbers : List ℕ) → RisesFrom least numbers →
    RisesFrom least (filter keep numbers)
rises-kept least keep [] rise = tt
rises-kept least keep (n ∷ numbers) rise = elim (cases_Bool (keep n)) [
  | inl kept ↦ rw kept (rise.0, rises-kept (n + 1) keep numbers rise.1)
  | inr gone ↦
      let first = rise.0 in
      rw gone (rises-lower least (n + 1) (filter keep numbers) (omega (arith, first))
      (rises-kept (n + 1) keep numbers rise.1))
]

rises-noted : (least n : ℕ) (numbers : List ℕ) → least ≤ n → RisesFrom least numbers →
    RisesFrom least (insert_new n numbers)
rises-noted least n [] low rise = (low, tt)
rises-noted least n (first ∷ numbers) low rise = elim (cases_Bool (nat_lt n first)) [
  | inl before ↦
      let less = ltb-true n first before in
      rw before (low, (omega (arith, less), rise.1))
  | inr after ↦ elim (cases_Bool (n == first)) [
    | inl same ↦ rw (after, same) rise
    | inr differ ↦
        let more = ltb-false n first after in let other = eqb-false n first differ in
        rw (after, differ) (rise.0, rises-noted (first + 1) n numbers (omega (arith, more, other)) rise.1)
  ]
]

rise-with : (n : ℕ) (ranges : List ReadRange) → RiseApart (n + 1) ranges → RiseApart n (with_number n ranges)
rise-with n [] rise = (omega arith, omega arith, tt)
rise-with n (one ∷ ranges) rise = elim (cases_Bool (one.first == n + 1)) [
  | inl touch ↦
      let first = rise.0 in let order = rise.1 in
      rw touch (omega arith, omega (arith, first, order), rise.2)
  | inr apart ↦
      let first = rise.0 in let differ = eqb-false one.first (n + 1) apart in
      rw apart (omega arith, omega arith, (omega (arith, first, differ), rise.1, rise.2))
]

rise-lower : (least higher : ℕ) (ranges : List ReadRange) → least ≤ higher → RiseApart higher ranges →
    RiseApart least ranges
rise-lower least higher [] low rise = tt
rise-lower least higher (one ∷ ranges) low rise =
    let first = rise.0 in (omega (arith, first, low), rise.1, rise.2)

rise-cut : (least : ℕ) (numbers : List ℕ) → RisesFrom least numbers → RiseApart least (as_ranges numbers)
rise-cut least [] rise = tt
rise-cut least (n ∷ numbers) rise =
    rise-lower least n (with_number n (as_ranges numbers)) rise.0 (rise-with n (as_ranges numbers) (rise-cut
    (n + 1) numbers rise.1))

pub unmarked-rise : (n : ℕ) (ranges : List ReadRange) → RiseApart 1 ranges → RiseApart 1 (mark_unread n ranges)
unmarked-rise n ranges rise = rise-cut 1 _ (rises-kept 1 (λ other. not (other == n)) (numbers_of ranges)
    (rises-numbers 1 ranges rise))

pub all_marked-rise : (numbers : List ℕ) (ranges : List ReadRange) → AllByRecursion (λ n. 1 ≤ n) numbers →
    RiseApart 1 ranges → RiseApart 1 (all_marked numbers ranges)
all_marked-rise [] ranges some rise = rise
all_marked-rise (n ∷ numbers) ranges some rise = all_marked-rise numbers (mark_read n ranges) some.1
    (rise-cut 1 (insert_new n (numbers_of ranges)) (rises-noted 1 n (numbers_of ranges) some.0
    (rises-numbers 1 ranges rise)))

-- ranges that rise pass the test of an effect
rise-after : (end least : ℕ) (ranges : List ReadRange) → end < least → RiseApart least ranges →
    rise_after end ranges ≡ true
rise-after end least [] low rise = refl
rise-after end least (one ∷ ranges) low rise =
    let first = rise.0 in let order = rise.1 in
    and_from _ _ (and_from _ _ (lt-ltb end one.first (omega (arith, first, low))) (le-leb one.first one.last order))
    (rise-after one.last (one.last + 2) ranges (omega arith) rise.2)

pub rise-tested : (ranges : List ReadRange) → RiseApart 1 ranges → rise_after 0 ranges ≡ true
rise-tested ranges rise = rise-after 0 1 ranges (omega arith) rise

-- what is read of whole rows rises
pub read-rises : (db : Db) (person conference : ℕ) → IsWhole db → RiseApart 1 (read_of db person conference)
unfolding read_of
read-rises db person conference whole = by db.reads whole.memberships.ranges where
  by : (reads : List ReadRow) → AllByRecursion (λ row. RiseApart 1 row.ranges) reads →
      RiseApart 1 (elim (find (is_read_of person conference) reads) [ None ↦ [] | Some row ↦ row.ranges ])
  by [] rise = tt
  by (row ∷ reads) rise = elim (cases_Bool (is_read_of person conference row)) [
    | inl here ↦ rw here rise.0
    | inr apart ↦ rw apart (by reads rise.1)
  ]
