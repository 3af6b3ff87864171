-- Rising numbers, and the ranges that they are cut into: one number more or less among them.
use Rattle.std.proofs.Common.{◌≡◌, ◌≢◌, ℕ, zero, suc, ◌+◌, ◌-◌, ◌≤◌, ◌<◌, Bool, true, false, ◌||◌, ◌&&◌, not, cond}
use Rattle.std.proofs.Common.{eqb, leb, ltb, nat_eq, ◌==◌, filter, List, [], ◌∷◌, ◌++◌, length, get_or, drop, refl, sym}
use Rattle.std.proofs.Common.{ap, ◌∙◌, arith}
use Rattle.std.specs.List.{list_any}
use Rattle.std.specs.Ordering.{nat_cmp}
use Rattle.std.specs.Cmp.{nat_cmp_total, unsigned_tied}
use Rattle.std.specs.FinSet.{FinSet, contains, insert, remove, contains-insert, contains-remove}
use Rattle.std.proofs.lemmas.Bool.Decides.{nat_tests}
use Rattle.std.proofs.lemmas.List.{drop_more}
use Rattle.kom_types.specs.declared.memberships.ReadRange.{ReadRange}
use Rattle.read_ranges.specs.Numbers.{range, RiseFrom, greatest, numbers_from, numbers_in, with_number, as_ranges}
use Rattle.read_ranges.specs.Numbers.{ranges_of}
use Rattle.read_ranges.specs.Changed.{numbers_of, size_of, insert_new, mark_read, all_marked, mark_unread}
use Rattle.read_ranges.proofs.Rises.{holds_in, rise_lower, one_list}
use Rattle.read_ranges.proofs.Sets.{any_flat, rise_with, holds_with, rise_ranges_of, holds_ranges_of, same_numbers}

-- numbers that rise from a least one on, and none past the greatest
abbrev pub NumbersRise : ℕ → List ℕ → Type 0
NumbersRise least [] = Unit {0}
NumbersRise least (n ∷ ns) = (least ≤ n) × (n ≤ greatest) × NumbersRise (n + 1) ns

-- whether a number is among them
abbrev pub has : List ℕ → ℕ → Bool
has ns m = list_any (λ y. nat_eq y m) ns

numbers_lower : (a b : ℕ) (ns : List ℕ) → a ≤ b → NumbersRise b ns → NumbersRise a ns
numbers_lower a b [] le rise = tt
numbers_lower a b (n ∷ ns) le rise = (omega arith, rise.1, rise.2)

-- there are no more of them than there are numbers from the least to the greatest
pub count_fits : (a : ℕ) (ns : List ℕ) → a ≤ greatest + 1 → NumbersRise a ns → a + length ns ≤ greatest + 1
count_fits a [] fits rise = omega arith
count_fits a (n ∷ ns) fits rise = omega (arith, count_fits (n + 1) ns (omega arith) rise.2)

-- the ranges that they are cut into
rise_cut_of : (a : ℕ) (ns : List ℕ) → NumbersRise a ns → RiseFrom a (as_ranges ns)
rise_cut_of a [] rise = tt
rise_cut_of a (n ∷ ns) rise =
    rise_lower a n _ rise.0 (rise_with n (as_ranges ns) rise.1 (rise_cut_of (n + 1) ns rise.2))

holds_cut_of : (a : ℕ) (ns : List ℕ) → NumbersRise a ns → (m : ℕ) → holds_in (as_ranges ns) m ≡ has ns m
holds_cut_of a [] rise m = refl
holds_cut_of a (n ∷ ns) rise m =
    holds_with n (as_ranges ns) (rise_cut_of (n + 1) ns rise.2) m
    ∙ rw (holds_cut_of (n + 1) ns rise.2 m) (grind (arith, nat_tests))

one_number : (n : ℕ) → numbers_in (range n n) ≡ n ∷ []
unfolding numbers_from
one_number n = let one : n + 1 - n ≡ 1 = omega arith in rw one refl

more_numbers : (n last : ℕ) → n + 1 ≤ last → numbers_in (range n last) ≡ n ∷ numbers_in (range (n + 1) last)
unfolding numbers_from
more_numbers n last le = let more : last + 1 - n ≡ suc (last + 1 - (n + 1)) = omega arith in rw more refl

numbers_with : (n : ℕ) (rs : List ReadRange) → RiseFrom (n + 1) rs → numbers_of (with_number n rs) ≡ n ∷ numbers_of rs
numbers_with n [] rise = ap (λ ns. ns ++ []) (one_number n)
numbers_with n (r ∷ rs) rise =
    elim (eqb r.first (n + 1)) as (λ b. eqb r.first (n + 1) ≡ b
    → numbers_of (cond b ((range n r.last) ∷ rs) ((range n n) ∷ r ∷ rs)) ≡ n ∷ numbers_of (r ∷ rs)) [
      | true ↦ λ e.
          let begins : n + 1 ≡ r.first = grind (arith, nat_tests) in
          ap (λ ns. ns ++ numbers_of rs) (more_numbers n r.last (omega arith)
          ∙ ap (λ k. n ∷ numbers_in (range k r.last)) begins)
      | false ↦ λ e. ap (λ ns. ns ++ numbers_of (r ∷ rs)) (one_number n)
    ] refl

-- they are the numbers of those ranges
pub numbers_cut : (a : ℕ) (ns : List ℕ) → NumbersRise a ns → numbers_of (as_ranges ns) ≡ ns
numbers_cut a [] rise = refl
numbers_cut a (n ∷ ns) rise =
    numbers_with n (as_ranges ns) (rise_cut_of (n + 1) ns rise.2) ∙ ap (λ ms. n ∷ ms) (numbers_cut (n + 1) ns rise.2)

-- the numbers of rising ranges rise
run_rises : (a first count : ℕ) (ns : List ℕ) → a ≤ first → first + count ≤ greatest + 1
    → NumbersRise (first + count) ns → NumbersRise a (numbers_from first count ++ ns)
unfolding numbers_from
run_rises a first zero ns le fits rise = numbers_lower a (first + zero) ns (omega arith) rise
run_rises a first (suc count) ns le fits rise = (
  le,
  omega arith,
  run_rises (first + 1) (first + 1) count ns (omega arith) (omega arith)
      (numbers_lower (first + 1 + count) (first + suc count) ns (omega arith) rise),
)

pub numbers_rise : (a : ℕ) (rs : List ReadRange) → RiseFrom a rs → NumbersRise a (numbers_of rs)
numbers_rise a [] rise = tt
numbers_rise a (r ∷ rs) rise =
    run_rises a r.first (r.last + 1 - r.first) (numbers_of rs) rise.0 (omega arith)
    (numbers_lower _ (r.last + 2) (numbers_of rs) (omega arith) (numbers_rise (r.last + 2) rs rise.3))

-- a number noted among them
noted_rise : (a n : ℕ) (ns : List ℕ) → a ≤ n → n ≤ greatest → NumbersRise a ns → NumbersRise a (insert_new n ns)
noted_rise a n [] le fits rise = (le, fits, tt)
noted_rise a n (first ∷ others) le fits rise =
    elim (ltb n first) as
    (λ b. ltb n first ≡ b → NumbersRise a
    (cond b (n ∷ first ∷ others) (cond (eqb n first) (first ∷ others) (first ∷ insert_new n others)))) [
      | true ↦ λ e. (le, fits, (grind (arith, nat_tests), rise.1, rise.2))
      | false ↦ λ e. elim (eqb n first) as (λ b. eqb n first ≡ b
          → NumbersRise a (cond b (first ∷ others) (first ∷ insert_new n others))) [
            | true ↦ λ f. rise
            | false ↦ λ f. (rise.0, rise.1, noted_rise (first + 1) n others (grind (arith, nat_tests)) fits rise.2)
          ] refl
    ] refl

noted_has : (n : ℕ) (ns : List ℕ) (m : ℕ) → has (insert_new n ns) m ≡ (eqb m n || has ns m)
noted_has n [] m = grind (arith, nat_tests)
noted_has n (first ∷ others) m =
    elim (ltb n first) as
    (λ b. has (cond b (n ∷ first ∷ others) (cond (eqb n first) (first ∷ others) (first ∷ insert_new n others))) m ≡
    (eqb m n || (nat_eq first m || has others m))) [
      | true ↦ grind (arith, nat_tests)
      | false ↦ elim (eqb n first) as
          (λ b. eqb n first ≡ b → has (cond b (first ∷ others) (first ∷ insert_new n others)) m ≡
          (eqb m n || (nat_eq first m || has others m))) [
            | true ↦ λ f. grind (arith, nat_tests)
            | false ↦ λ f. rw (noted_has n others m) (grind (arith, nat_tests))
          ] refl
    ]

noted_more : (n : ℕ) (ns : List ℕ) → has ns n ≡ false → length (insert_new n ns) ≡ length ns + 1
noted_more n [] free = refl
noted_more n (first ∷ others) free =
    let apart : eqb n first ≡ false = grind (arith, nat_tests) in
    let rest : has others n ≡ false = grind (arith, nat_tests) in
    let more : length (insert_new n others) ≡ length others + 1 = noted_more n others rest in
    elim (ltb n first) as
    (λ b. length (cond b (n ∷ first ∷ others) (cond (eqb n first) (first ∷ others) (first ∷ insert_new n others)))
    ≡ length (first ∷ others) + 1) [
      | true ↦ omega arith
      | false ↦ rw apart (omega arith)
    ]

-- those that pass a test
filter_rise : (p : ℕ → Bool) (a : ℕ) (ns : List ℕ) → NumbersRise a ns → NumbersRise a (filter p ns)
filter_rise p a [] rise = tt
filter_rise p a (n ∷ ns) rise =
    elim (p n) as (λ b. NumbersRise a (cond b (n ∷ filter p ns) (filter p ns))) [
      | true ↦ (rise.0, rise.1, filter_rise p (n + 1) ns rise.2)
      | false ↦ numbers_lower a (n + 1) _ (omega arith) (filter_rise p (n + 1) ns rise.2)
    ]

but_has : (n : ℕ) (ns : List ℕ) (m : ℕ) → has (filter (λ other. not (other == n)) ns) m ≡ (not (eqb m n) && has ns m)
but_has n [] m = grind (arith, nat_tests)
but_has n (first ∷ others) m =
    let rest : has (filter (λ other. not (other == n)) others) m ≡
    (not (eqb m n) && has others m) = but_has n others m in
    elim (eqb first n) as
    (λ b. eqb first n ≡ b → has
    (cond (not b) (first ∷ filter (λ other. not (other == n)) others)
    (filter (λ other. not (other == n)) others)) m ≡ (not (eqb m n) && (nat_eq first m || has others m))) [
      | true ↦ λ e. rw rest (grind (arith, nat_tests))
      | false ↦ λ e. rw rest (grind (arith, nat_tests))
    ] refl

-- the numbers of a set's ranges
set_numbers : (s : FinSet nat_cmp) → NumbersRise 1 (numbers_of (ranges_of s))
set_numbers s = numbers_rise 1 (ranges_of s) (rise_ranges_of s)

set_has : (s : FinSet nat_cmp) (m : ℕ) → has (numbers_of (ranges_of s)) m ≡
    ((leb 1 m && ltb m (1 + greatest)) && contains s m)
set_has s m = any_flat (ranges_of s) m ∙ holds_ranges_of s m

pub set_fits : (s : FinSet nat_cmp) → size_of (ranges_of s) ≤ greatest
set_fits s = omega (arith, count_fits 1 (numbers_of (ranges_of s)) (omega arith) (set_numbers s))

-- what is in a set with one number more, and with one less
more_has : (s : FinSet nat_cmp) (n m : ℕ) → contains (insert s n) m ≡ (eqb m n || contains s m)
more_has s n m = contains-insert nat_cmp_total s n m ∙ rw (unsigned_tied m n) refl

less_has : (s : FinSet nat_cmp) (n m : ℕ) → contains (remove s n) m ≡ (not (eqb m n) && contains s m)
less_has s n m = contains-remove nat_cmp_total s n m ∙ rw (unsigned_tied m n) (grind (arith, nat_tests))

bounded : ℕ → Bool → Bool
bounded m b = (leb 1 m && ltb m (1 + greatest)) && b

module _ (s : FinSet nat_cmp) (n : ℕ) (some : n ≢ 0) (fits : n ≤ greatest) where
  noted_numbers : NumbersRise 1 (insert_new n (numbers_of (ranges_of s)))
  noted_numbers = noted_rise 1 n _ (omega arith) fits (set_numbers s)

  more_within : (m : ℕ) (b : Bool) → (eqb m n || bounded m b) ≡ bounded m (eqb m n || b)
  unfolding bounded
  more_within m b = grind (arith, nat_tests)

  more_held : (m : ℕ) → holds_in (mark_read n (ranges_of s)) m ≡ holds_in (ranges_of (insert s n)) m
  unfolding bounded
  more_held m =
      holds_cut_of 1 _ noted_numbers m ∙ noted_has n (numbers_of (ranges_of s)) m
      ∙ ap (λ b. eqb m n || b) (set_has s m) ∙ more_within m (contains s m)
      ∙ ap (bounded m) (sym (more_has s n m)) ∙ sym (holds_ranges_of (insert s n) m)

  -- the ranges of a set with one number more
  pub marked_ranges : ranges_of (insert s n) ≡ mark_read n (ranges_of s)
  marked_ranges = sym (one_list 1 _ _ (rise_cut_of 1 _ noted_numbers) (rise_ranges_of (insert s n)) more_held)

  -- a number that was not there makes them one number more
  pub marked_size : contains s n ≡ false → size_of (ranges_of (insert s n)) ≡ size_of (ranges_of s) + 1
  marked_size free =
      let none : has (numbers_of (ranges_of s)) n ≡ false = set_has s n ∙ rw free (grind (arith, nat_tests)) in
      ap size_of marked_ranges ∙ ap length (numbers_cut 1 _ noted_numbers) ∙ noted_more n _ none

  -- and one that was leaves them as they were
  pub marked_held : contains s n ≡ true → mark_read n (ranges_of s) ≡ ranges_of s
  marked_held held =
      let same : (m : ℕ) → contains (insert s n) m ≡ contains s m = λ m. more_has s n m ∙ there m held in
      sym marked_ranges ∙ ap ranges_of (same_numbers (insert s n) s same)
    where
      there : (m : ℕ) → contains s n ≡ true → (eqb m n || contains s m) ≡ contains s m
      there m held =
          elim (eqb m n) as (λ b. eqb m n ≡ b → (b || contains s m) ≡ contains s m) [
            | true ↦ λ e. let is : m ≡ n = grind (arith, nat_tests) in sym (ap (contains s) is ∙ held)
            | false ↦ λ e. refl
          ] refl

less_within : (n m : ℕ) (b : Bool) → (not (eqb m n) && bounded m b) ≡ bounded m (not (eqb m n) && b)
unfolding bounded
less_within n m b = grind (arith, nat_tests)

but_numbers : (s : FinSet nat_cmp) (n : ℕ) → NumbersRise 1
    (filter (λ other. not (other == n)) (numbers_of (ranges_of s)))
but_numbers s n = filter_rise (λ other. not (other == n)) 1 _ (set_numbers s)

less_held : (s : FinSet nat_cmp) (n m : ℕ) →
    holds_in (mark_unread n (ranges_of s)) m ≡ holds_in (ranges_of (remove s n)) m
unfolding bounded
less_held s n m =
    holds_cut_of 1 _ (but_numbers s n) m ∙ but_has n (numbers_of (ranges_of s)) m
    ∙ ap (λ b. not (eqb m n) && b) (set_has s m) ∙ less_within n m (contains s m)
    ∙ ap (bounded m) (sym (less_has s n m)) ∙ sym (holds_ranges_of (remove s n) m)

-- the ranges of a set with one number less
pub unmarked_ranges : (s : FinSet nat_cmp) (n : ℕ) → ranges_of (remove s n) ≡ mark_unread n (ranges_of s)
unmarked_ranges s n = sym
    (one_list 1 _ _ (rise_cut_of 1 _ (but_numbers s n)) (rise_ranges_of (remove s n)) (less_held s n))

-- one more number of a list that is marked
pub marked_step : (ns : List ℕ) (i : ℕ) (s t : FinSet nat_cmp) (whole : List ReadRange) → i < length ns
    → get_or ns i 0 ≢ 0 → get_or ns i 0 ≤ greatest → t ≡ insert s (get_or ns i 0)
    → all_marked (drop i ns) (ranges_of s) ≡ whole → all_marked (drop (i + 1) ns) (ranges_of t) ≡ whole
marked_step ns i s t whole within some fits is so_far =
    ap (λ u. all_marked (drop (i + 1) ns) (ranges_of u)) is
    ∙ ap (all_marked (drop (i + 1) ns)) (marked_ranges s (get_or ns i 0) some fits)
    ∙ ap (λ ms. all_marked ms (ranges_of s)) (sym (drop_more ns i 0 within)) ∙ so_far

-- also if it was there
pub held_step : (ns : List ℕ) (i : ℕ) (s : FinSet nat_cmp) (whole : List ReadRange) → i < length ns → get_or ns i 0 ≢ 0
    → get_or ns i 0 ≤ greatest → contains s (get_or ns i 0) ≡ true → all_marked (drop i ns) (ranges_of s) ≡ whole
    → all_marked (drop (i + 1) ns) (ranges_of s) ≡ whole
held_step ns i s whole within some fits held so_far =
    ap (all_marked (drop (i + 1) ns)) (sym (marked_held s (get_or ns i 0) some fits held))
    ∙ ap (λ ms. all_marked ms (ranges_of s)) (sym (drop_more ns i 0 within)) ∙ so_far

-- a number that was not there counts
pub newly_step : (s t : FinSet nat_cmp) (n newly before : ℕ) → n ≢ 0 → n ≤ greatest → contains s n ≡ false
    → t ≡ insert s n → newly + before ≡ size_of (ranges_of s) → newly + 1 + before ≡ size_of (ranges_of t)
newly_step s t n newly before some fits free is so_far =
    let more : size_of (ranges_of t) ≡ size_of (ranges_of s) + 1 = ap (λ u. size_of (ranges_of u)) is
    ∙ marked_size s n some fits free in
    omega arith

-- what is left of a copy of a set
pub unmarked_copy : (s copy left : FinSet nat_cmp) (n : ℕ) (list : List ReadRange) → list ≡ ranges_of left
    → left ≡ remove copy n → copy ≡ s → list ≡ mark_unread n (ranges_of s)
unmarked_copy s copy left n list is without same =
    is ∙ ap ranges_of (without ∙ ap (λ t. remove t n) same) ∙ unmarked_ranges s n
