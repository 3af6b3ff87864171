-- The sets of ranges, and the ranges of sets.
use Rattle.std.proofs.Common.{◌≡◌, ℕ, zero, suc, ◌+◌, ◌-◌, ◌≤◌, Bool, true, false, ◌||◌, ◌&&◌, leb, ltb, eqb, nat_eq}
use Rattle.std.proofs.Common.{not, cond, filter, List, [], ◌∷◌, refl, sym, ◌∙◌, arith}
use Rattle.std.specs.List.{list_any, flat_map}
use Rattle.std.specs.Ordering.{nat_cmp}
use Rattle.std.specs.Cmp.{nat_cmp_total, unsigned_tied}
use Rattle.std.specs.FinSet.{FinSet, empty, contains, insert, remove, contains-from_list_nat}
use Rattle.std.specs.FinSet.{contains-insert, contains-remove, same_set, nat_cmp-IsAntisymmetric}
use Rattle.std.proofs.lemmas.Bool.Decides.{nat_tests}
use Rattle.std.proofs.lemmas.List.Folds.{list_any-append}
use Rattle.kom_types.specs.declared.memberships.ReadRange.{ReadRange}
use Rattle.read_ranges.specs.Numbers.{range, RiseFrom, AreRanges, greatest, numbers_from, numbers_in, union_of}
use Rattle.read_ranges.specs.Numbers.{with_number, as_ranges, ranges_of, IsWithinBounds}
use Rattle.read_ranges.proofs.Rises.{is_in_range, holds_in, held_at_least, held_at_most, one_list, rise_lower}

-- which numbers a run of numbers has
any_from : (first count n : ℕ) → list_any (λ y. nat_eq y n) (numbers_from first count) ≡
    (leb first n && ltb n (first + count))
unfolding numbers_from
any_from first zero n = grind (arith, nat_tests)
any_from first (suc count) n = rw (any_from (first + 1) count n) (grind (arith, nat_tests))

any_in : (r : ReadRange) (n : ℕ) → list_any (λ y. nat_eq y n) (numbers_in r) ≡ is_in_range n r
any_in r n = any_from r.first (r.last + 1 - r.first) n ∙ grind (arith, nat_tests)

pub any_flat : (rs : List ReadRange) (n : ℕ) → list_any (λ y. nat_eq y n) (flat_map numbers_in rs) ≡ holds_in rs n
any_flat [] n = refl
any_flat (r ∷ rs) n = list_any-append (λ y. nat_eq y n) (numbers_in r) (flat_map numbers_in rs)
    ∙ rw (any_in r n, any_flat rs n) refl

-- the union of ranges has the numbers that are in one of them
pub contains-union_of : (rs : List ReadRange) (n : ℕ) → contains (union_of rs) n ≡ holds_in rs n
unfolding union_of
contains-union_of rs n = contains-from_list_nat (flat_map numbers_in rs) n ∙ any_flat rs n

-- ranges with a number put before them
pub rise_with : (n : ℕ) (rs : List ReadRange) → n ≤ greatest → RiseFrom (n + 1) rs → RiseFrom n (with_number n rs)
rise_with n [] fits rise = (omega arith, omega arith, fits, tt)
rise_with n (r ∷ rs) fits rise =
    elim (eqb r.first (n + 1)) as (λ b. eqb r.first (n + 1) ≡ b →
    RiseFrom n (cond b ((range n r.last) ∷ rs) ((range n n) ∷ r ∷ rs))) [
      | true ↦ λ e. (omega arith, omega arith, rise.2, rise.3)
      | false ↦ λ e. (omega arith, omega arith, fits, (grind (arith, nat_tests), rise.1, rise.2, rise.3))
    ] refl

pub holds_with : (n : ℕ) (rs : List ReadRange) → RiseFrom (n + 1) rs → (m : ℕ) →
    holds_in (with_number n rs) m ≡ (eqb m n || holds_in rs m)
holds_with n [] rise m = grind (arith, nat_tests)
holds_with n (r ∷ rs) rise m =
    elim (eqb r.first (n + 1)) as (λ b. eqb r.first (n + 1) ≡ b →
    holds_in (cond b ((range n r.last) ∷ rs) ((range n n) ∷ r ∷ rs)) m ≡
    (eqb m n || (is_in_range m r || holds_in rs m))) [
      | true ↦ λ e. grind (arith, nat_tests)
      | false ↦ λ e. grind (arith, nat_tests)
    ] refl

-- the numbers that pass a test, cut into ranges
rise_cut : (p : ℕ → Bool) (first count : ℕ) → first + count ≤ greatest + 1 →
    RiseFrom first (as_ranges (filter p (numbers_from first count)))
unfolding numbers_from
rise_cut p first zero fits = tt
rise_cut p first (suc count) fits =
    let rest : RiseFrom (first + 1) (as_ranges (filter p (numbers_from (first + 1) count))) =
    rise_cut p (first + 1) count (omega arith) in
    elim (p first) as (λ b. RiseFrom first (as_ranges (cond b (first ∷ filter p (numbers_from (first + 1) count))
    (filter p (numbers_from (first + 1) count))))) [
      | true ↦ rise_with first _ (omega arith) rest
      | false ↦ rise_lower first (first + 1) _ (omega arith) rest
    ]

holds_cut : (p : ℕ → Bool) (first count : ℕ) → first + count ≤ greatest + 1 → (n : ℕ) →
    holds_in (as_ranges (filter p (numbers_from first count))) n ≡ ((leb first n && ltb n (first + count)) && p n)
unfolding numbers_from
holds_cut p first zero fits n = grind (arith, nat_tests)
holds_cut p first (suc count) fits n =
    let rest : RiseFrom (first + 1) (as_ranges (filter p (numbers_from (first + 1) count))) =
    rise_cut p (first + 1) count (omega arith) in
    let held : holds_in (as_ranges (filter p (numbers_from (first + 1) count))) n ≡
    ((leb (first + 1) n && ltb n (first + 1 + count)) && p n) = holds_cut p (first + 1) count (omega arith) n in
    let here : eqb n first ≡ true → p n ≡ p first = λ e. grind (arith, nat_tests) in
    elim (p first) as (λ b. p first ≡ b → holds_in (as_ranges
    (cond b (first ∷ filter p (numbers_from (first + 1) count)) (filter p (numbers_from (first + 1) count)))) n ≡
    ((leb first n && ltb n (first + suc count)) && p n)) [
      | true ↦ λ e. holds_with first _ rest n ∙ rw held (grind (arith, nat_tests))
      | false ↦ λ e. held ∙ grind (arith, nat_tests)
    ] refl

-- the ranges of a set rise
pub rise_ranges_of : (s : FinSet nat_cmp) → AreRanges (ranges_of s)
unfolding ranges_of
rise_ranges_of s = rise_cut (contains s) 1 greatest (omega arith)

-- the ranges of a set hold its numbers
pub holds_ranges_of : (s : FinSet nat_cmp) (n : ℕ) →
    holds_in (ranges_of s) n ≡ ((leb 1 n && ltb n (1 + greatest)) && contains s n)
unfolding ranges_of
holds_ranges_of s n = holds_cut (contains s) 1 greatest (omega arith) n

-- a set is known by its numbers
pub same_numbers : (s t : FinSet nat_cmp) → ((n : ℕ) → contains s n ≡ contains t n) → s ≡ t
same_numbers s t same = same_set nat_cmp_total nat_cmp-IsAntisymmetric s t same

-- in a set within bounds, the bounds need no test
in_bounds : (s : FinSet nat_cmp) → IsWithinBounds s → (n : ℕ) →
    ((leb 1 n && ltb n (1 + greatest)) && contains s n) ≡ contains s n
in_bounds s within n =
    elim (contains s n) as (λ b. contains s n ≡ b → ((leb 1 n && ltb n (1 + greatest)) && b) ≡ b) [
      | true ↦ λ e. let bounds = within n e in grind (arith, nat_tests, bounds)
      | false ↦ λ e. grind (arith, nat_tests)
    ] refl

-- the union of rising ranges is within bounds
pub within_set_of : (rs : List ReadRange) → AreRanges rs → IsWithinBounds (union_of rs)
within_set_of rs rise n held =
    let is : holds_in rs n ≡ true = sym (contains-union_of rs n) ∙ held in
    (held_at_least 1 rs n rise is, held_at_most 1 rs n rise is)

-- the union of a set's ranges is the set
pub union_of-ranges_of : (s : FinSet nat_cmp) → IsWithinBounds s → union_of (ranges_of s) ≡ s
union_of-ranges_of s within = same_numbers _ _ (λ n. contains-union_of (ranges_of s) n ∙ holds_ranges_of s n
    ∙ in_bounds s within n)

-- rising ranges are the ranges of their union
pub ranges_of-union_of : (rs : List ReadRange) → AreRanges rs → ranges_of (union_of rs) ≡ rs
ranges_of-union_of rs rise =
    one_list 1 _ rs (rise_ranges_of (union_of rs)) rise
    (λ n. holds_ranges_of (union_of rs) n ∙ in_bounds (union_of rs) (within_set_of rs rise) n ∙ contains-union_of rs n)

-- no ranges make the empty set
pub union_of-nil : union_of [] ≡ empty
unfolding union_of
union_of-nil = refl

-- ranges that hold n beside what others hold
pub union_of-marked : (xs ys : List ReadRange) (n : ℕ) → ((m : ℕ) → holds_in ys m ≡ (eqb m n || holds_in xs m)) →
    union_of ys ≡ insert (union_of xs) n
union_of-marked xs ys n held = same_numbers _ _ (λ m.
    contains-union_of ys m ∙ held m ∙ sym (contains-insert nat_cmp_total (union_of xs) n m
    ∙ rw (unsigned_tied m n, contains-union_of xs m) refl))

-- ranges that hold what others hold, without n
pub union_of-unmarked : (xs ys : List ReadRange) (n : ℕ) →
    ((m : ℕ) → holds_in ys m ≡ (not (eqb m n) && holds_in xs m)) → union_of ys ≡ remove (union_of xs) n
union_of-unmarked xs ys n held = same_numbers _ _ (λ m.
    contains-union_of ys m ∙ held m ∙ sym (contains-remove nat_cmp_total (union_of xs) n m
    ∙ rw (unsigned_tied m n, contains-union_of xs m) (grind (arith, nat_tests))))
