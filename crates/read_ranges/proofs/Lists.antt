-- Given lists of ranges: their faults, and what they make once those that touch are merged.
use Rattle.std.proofs.Common.{◌≡◌, ◌≢◌, ℕ, zero, suc, ◌+◌, ◌-◌, ◌≤◌, true, false, ◌||◌, cond, eqb}
use Rattle.std.proofs.Common.{List, [], ◌∷◌, length, get_or, refl, sym, ap, ◌∙◌, inl, inr, arith}
use Rattle.std.proofs.lemmas.Bool.{cases_lt}
use Rattle.std.proofs.lemmas.Bool.Decides.{nat_tests}
use Rattle.kom_types.specs.declared.memberships.ReadRange.{ReadRange}
use Rattle.read_ranges.specs.Numbers.{range, RiseFrom, greatest, union_of}
use Rattle.read_ranges.specs.Merged.{with_range, merge_all}
use Rattle.read_ranges.specs.ListFault.{IsFaultless, EndWithinBelow}
use Rattle.read_ranges.proofs.Rises.{is_in_range, holds_in, rise_lower}
use Rattle.read_ranges.proofs.Sets.{same_numbers, contains-union_of}

-- ranges that rise and may touch
abbrev pub TouchFrom : ℕ → List ReadRange → Type 0
TouchFrom least [] = Unit {0}
TouchFrom least (r ∷ rs) = (least ≤ r.first) × (r.first ≤ r.last) × (r.last ≤ greatest) × TouchFrom (r.last + 1) rs

-- a range put before rising ranges
rise_with_range : (r : ReadRange) (rs : List ReadRange) → r.first ≤ r.last → r.last ≤ greatest →
    RiseFrom (r.last + 1) rs → RiseFrom r.first (with_range r rs)
rise_with_range r [] order fits rise = (omega arith, order, fits, tt)
rise_with_range r (q ∷ qs) order fits rise =
    elim (eqb q.first (r.last + 1)) as (λ b. eqb q.first (r.last + 1) ≡ b →
    RiseFrom r.first (cond b ((range r.first q.last) ∷ qs) (r ∷ q ∷ qs))) [
      | true ↦ λ e. (omega arith, omega arith, rise.2, rise.3)
      | false ↦ λ e. (omega arith, order, fits, (grind (arith, nat_tests), rise.1, rise.2, rise.3))
    ] refl

holds_with_range : (r : ReadRange) (rs : List ReadRange) → r.first ≤ r.last → RiseFrom (r.last + 1) rs → (m : ℕ) →
    holds_in (with_range r rs) m ≡ (is_in_range m r || holds_in rs m)
holds_with_range r [] order rise m = refl
holds_with_range r (q ∷ qs) order rise m =
    elim (eqb q.first (r.last + 1)) as (λ b. eqb q.first (r.last + 1) ≡ b →
    holds_in (cond b ((range r.first q.last) ∷ qs) (r ∷ q ∷ qs)) m ≡
    (is_in_range m r || (is_in_range m q || holds_in qs m))) [
      | true ↦ λ e. grind (arith, nat_tests)
      | false ↦ λ e. refl
    ] refl

pub rise_merged : (a : ℕ) (rs : List ReadRange) → TouchFrom a rs → RiseFrom a (merge_all rs)
rise_merged a [] touch = tt
rise_merged a (r ∷ rs) touch = rise_lower a r.first _ touch.0
    (rise_with_range r (merge_all rs) touch.1 touch.2 (rise_merged (r.last + 1) rs touch.3))

pub holds_merged : (a : ℕ) (rs : List ReadRange) → TouchFrom a rs → (m : ℕ) → holds_in (merge_all rs) m ≡ holds_in rs m
holds_merged a [] touch m = refl
holds_merged a (r ∷ rs) touch m =
    holds_with_range r (merge_all rs) touch.1 (rise_merged (r.last + 1) rs touch.3) m
    ∙ ap (λ b. is_in_range m r || b) (holds_merged (r.last + 1) rs touch.3 m)

pub union_of-merged : (rs : List ReadRange) → TouchFrom 1 rs → union_of (merge_all rs) ≡ union_of rs
union_of-merged rs touch = same_numbers _ _ (λ m. contains-union_of (merge_all rs) m ∙ holds_merged 1 rs touch m
    ∙ sym (contains-union_of rs m))

-- merging makes no more ranges
length-with_range : (r : ReadRange) (rs : List ReadRange) → length (with_range r rs) ≤ length rs + 1
length-with_range r [] = omega arith
length-with_range r (q ∷ qs) =
    elim (eqb q.first (r.last + 1)) as (λ b. length (cond b ((range r.first q.last) ∷ qs) (r ∷ q ∷ qs)) ≤ length
    (q ∷ qs) + 1) [ true ↦ omega arith | false ↦ omega arith ]

pub length-merged : (rs : List ReadRange) → length (merge_all rs) ≤ length rs
length-merged [] = omega arith
length-merged (r ∷ rs) = omega (arith, length-with_range r (merge_all rs), length-merged rs)

-- what a range and those after it make: one that touches it lengthens it, and any other follows it
pub merged_touching : (last r : ReadRange) (rs : List ReadRange) → r.first ≡ last.last + 1 →
    merge_all (last ∷ r ∷ rs) ≡ merge_all (range last.first r.last ∷ rs)
merged_touching last r rs touches = elim (merge_all rs)
    as (λ ms. with_range last (with_range r ms) ≡ with_range (range last.first r.last) ms) [
      | [] ↦ grind (arith, nat_tests)
      | q ∷ qs ↦ grind (arith, nat_tests)
    ]

pub merged_apart : (last r : ReadRange) (rs : List ReadRange) → r.first ≢ last.last + 1 →
    merge_all (last ∷ r ∷ rs) ≡ last ∷ merge_all (r ∷ rs)
merged_apart last r rs apart =
    elim (merge_all rs) as (λ ms. with_range last (with_range r ms) ≡ last ∷ with_range r ms) [
      | [] ↦ grind (arith, nat_tests)
      | q ∷ qs ↦ grind (arith, nat_tests)
    ]

-- the others of a faultless list are faultless
pub others_faultless : (r : ReadRange) (rs : List ReadRange) → IsFaultless (r ∷ rs) → IsFaultless rs
others_faultless r rs faultless k lt (inl invalid) = faultless (suc k) (omega arith) (inl invalid)
others_faultless r rs faultless zero lt (inr disorder) = absurd (omega (arith, disorder.0))
others_faultless r rs faultless (suc k) lt (inr disorder) =
    faultless (suc (suc k)) (omega arith) (inr (omega arith, same disorder.1))
  where
    same : (get_or rs (suc k) (range 0 0)).first ≤ (get_or rs (suc k - 1) (range 0 0)).last →
        (get_or rs (suc k) (range 0 0)).first ≤ (get_or (r ∷ rs) (suc (suc k) - 1) (range 0 0)).last
    same le =
        let here : suc k - 1 ≡ k = omega arith in
        let there : suc (suc k) - 1 ≡ suc k = omega arith in
        rw there (rw here at le)

-- the list begins with a or above, if at all
abbrev pub Begins : ℕ → List ReadRange → Type 0
Begins a [] = Unit {0}
Begins a (r ∷ rs) = a ≤ r.first

pub next_begins : (r : ReadRange) (rs : List ReadRange) → IsFaultless (r ∷ rs) → Begins (r.last + 1) rs
next_begins r [] faultless = tt
next_begins r (q ∷ qs) faultless = elim (cases_lt r.last q.first) [
  | inl lt ↦ omega arith
  | inr le ↦ absurd (faultless 1 (omega arith) (inr (omega arith, le)))
]

pub valid_order : (r : ReadRange) (rs : List ReadRange) → IsFaultless (r ∷ rs) → r.first ≤ r.last
valid_order r rs faultless = elim (cases_lt r.last r.first) [
  | inl lt ↦ absurd (faultless 0 (omega arith) (inl (inr lt)))
  | inr le ↦ le
]

touch_from : (a : ℕ) (rs : List ReadRange) → Begins a rs → EndWithinBelow rs (length rs) → IsFaultless rs →
    TouchFrom a rs
touch_from a [] begins fits faultless = tt
touch_from a (r ∷ rs) begins fits faultless = (
  begins,
  valid_order r rs faultless,
  fits 0 (omega arith),
  touch_from (r.last + 1) rs (next_begins r rs faultless)
      (λ k lt. fits (suc k) (omega arith)) (others_faultless r rs faultless),
)

pub begins_at_one : (rs : List ReadRange) → IsFaultless rs → Begins 1 rs
begins_at_one [] faultless = tt
begins_at_one (r ∷ rs) faultless = elim (cases_lt 0 r.first) [
  | inl lt ↦ omega arith
  | inr le ↦ absurd (faultless 0 (omega arith) (inl (inl (omega arith))))
]

-- a faultless list rises, and may touch
pub touch_from_faultless : (rs : List ReadRange) → EndWithinBelow rs (length rs) → IsFaultless rs → TouchFrom 1 rs
touch_from_faultless rs fits faultless = touch_from 1 rs (begins_at_one rs faultless) fits faultless
