-- Whether some number of a run is not in a set.
use Rattle.std.proofs.Common.{◌≡◌, ◌≢◌, ℕ, zero, suc, ◌+◌, ◌-◌, ◌≤◌, ◌<◌, Bool, true, false, not, leb}
use Rattle.std.proofs.Common.{IsTrue, refl, sym, ap, ◌∙◌, inl, inr, arith}
use Rattle.std.specs.List.{list_any}
use Rattle.std.specs.Ordering.{nat_cmp}
use Rattle.std.specs.FinSet.{FinSet, contains}
use Rattle.std.proofs.lemmas.Bool.{cases_lt}
use Rattle.std.proofs.lemmas.Bool.Decides.{nat_tests}
use Rattle.read_ranges.specs.Numbers.{greatest, numbers_from, ranges_of, IsReadFrom, IsNextUnread}
use Rattle.read_ranges.specs.Changed.{is_in, has_unread}
use Rattle.read_ranges.proofs.Sets.{holds_ranges_of}

any_none : (p : ℕ → Bool) (first count : ℕ) → ((m : ℕ) → first ≤ m → m < first + count → p m ≡ false)
    → list_any p (numbers_from first count) ≡ false
unfolding numbers_from
any_none p first zero none = refl
any_none p first (suc count) none =
    let rest : list_any p (numbers_from (first + 1) count) ≡ false = any_none p (first + 1) count
    (λ m from below. none m (omega arith) (omega arith)) in
    rw (none first (omega arith) (omega arith), rest) refl

any_some : (p : ℕ → Bool) (first count m : ℕ) → first ≤ m → m < first + count → p m ≡ true
    → list_any p (numbers_from first count) ≡ true
unfolding numbers_from
any_some p first zero m from below held = absurd (omega arith)
any_some p first (suc count) m from below held = elim (cases_lt first m) [
  | inl lt ↦ rw (any_some p (first + 1) count m (omega arith) (omega arith) held) (grind (arith, nat_tests))
  | inr le ↦ let same : first ≡ m = omega arith in rw (ap p same ∙ held) refl
]

-- within bounds the ranges of a set tell what is in it
in_ranges : (s : FinSet nat_cmp) (m : ℕ) → 1 ≤ m → m ≤ greatest → is_in m (ranges_of s) ≡ contains s m
in_ranges s m from to = holds_ranges_of s m ∙ grind (arith, nat_tests)

not_false : (s : FinSet nat_cmp) (m : ℕ) → ¬ IsTrue (contains s m) → contains s m ≡ false
not_false s m unread =
    elim (contains s m) as (λ b. contains s m ≡ b → b ≡ false) [
      | true ↦ λ e. absurd (unread e)
      | false ↦ λ e. refl
    ] refl

module _ (s : FinSet nat_cmp) (first last : ℕ) (some : first ≢ 0) (fits : last ≤ greatest) where
  all_read : ((m : ℕ) → first ≤ m → m ≤ last → IsTrue (contains s m)) → has_unread first last (ranges_of s) ≡ false
  all_read read = any_none _ first (last + 1 - first) (λ m from below.
      ap not (in_ranges s m (omega arith) (omega arith) ∙ read m from (omega arith)))

  -- the first unread number tells
  pub unread_found : (n : ℕ) → IsNextUnread s first n → leb n last ≡ has_unread first last (ranges_of s)
  unread_found n next = elim (cases_lt last n) [
    | inl lt ↦
        let none : has_unread first last (ranges_of s) ≡ false = all_read
        (λ m from to. next.read_before m from (omega arith)) in
        let past : leb n last ≡ false = grind (arith, nat_tests) in
        past ∙ sym none
    | inr le ↦
        let from : first ≤ n = next.from_here in
        let free : not (is_in n (ranges_of s)) ≡ true = ap not (in_ranges s n (omega arith) (omega arith)
        ∙ not_false s n next.unread) in
        let one : has_unread first last (ranges_of s) ≡ true = any_some _ first (last + 1 - first) n from
        (omega arith) free in
        let within : leb n last ≡ true = grind (arith, nat_tests) in
        within ∙ sym one
  ]

  pub unread_none : IsReadFrom s first → has_unread first last (ranges_of s) ≡ false
  unread_none read = all_read (λ m from to. read m from (omega arith))
