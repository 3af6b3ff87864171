-- A list rises exactly if it has no fault.
use Rattle.std.proofs.Common.{◌≡◌, ℕ, zero, suc, ◌+◌, ◌-◌, ◌≤◌, ◌<◌, true, ◌↔◌, IsTrue}
use Rattle.std.proofs.Common.{List, [], ◌∷◌, get_or, refl, sym, Bool, false, not, Option, Some, None}
use Rattle.std.proofs.Common.{MatchOption, is_some, inl, inr, arith}
use Rattle.std.proofs.lemmas.Bool.{false≢true}
use Rattle.std.proofs.lemmas.Bool.Decides.{nat_tests}
use Rattle.kom_types.specs.declared.memberships.ReadRange.{ReadRange}
use Rattle.read_ranges.specs.Numbers.{range}
use Rattle.read_ranges.specs.Changed.{rise_after}
use Rattle.read_ranges.specs.ListFault.{IsFaultless, IsFirstFault}
use Rattle.read_ranges.proofs.Lists.{Begins, begins_at_one, others_faultless, next_begins, valid_order}

rises : (end : ℕ) (rs : List ReadRange) → Begins (end + 1) rs → IsFaultless rs → rise_after end rs ≡ true
rises end [] begins faultless = refl
rises end (r ∷ rs) begins faultless =
    let order : r.first ≤ r.last = valid_order r rs faultless in
    let rest : rise_after r.last rs ≡ true = rises r.last rs (next_begins r rs faultless)
    (others_faultless r rs faultless) in
    rw rest (grind (arith, nat_tests))

-- the parts of a rising list
parts : (end : ℕ) (r : ReadRange) (rs : List ReadRange) → rise_after end (r ∷ rs) ≡ true
    → (end < r.first) × (r.first ≤ r.last) × (rise_after r.last rs ≡ true)
parts end r rs rise = (grind (arith, nat_tests), grind (arith, nat_tests), grind (arith, nat_tests))

faultless_after : (end : ℕ) (rs : List ReadRange) → rise_after end rs ≡ true → IsFaultless rs
faultless_after end [] rise k lt fault = absurd (omega arith)
faultless_after end (r ∷ rs) rise zero lt (inl (inl none)) = let p = parts end r rs rise in absurd (omega (arith, p.0))
faultless_after end (r ∷ rs) rise zero lt (inl (inr order)) = let p = parts end r rs rise in absurd (omega (arith, p.1))
faultless_after end (r ∷ rs) rise zero lt (inr disorder) = absurd (omega (arith, disorder.0))
faultless_after end (r ∷ rs) rise (suc k) lt (inl invalid) = faultless_after r.last rs (parts end r rs rise).2 k
    (omega arith) (inl invalid)
faultless_after end (r ∷ []) rise (suc k) lt (inr disorder) = absurd (omega arith)
faultless_after end (r ∷ q ∷ qs) rise (suc zero) lt (inr disorder) =
    let p = parts r.last q qs (parts end r (q ∷ qs) rise).2 in
    absurd (omega (arith, p.0, disorder.1))
faultless_after end (r ∷ q ∷ qs) rise (suc (suc k)) lt (inr disorder) =
    faultless_after r.last (q ∷ qs) (parts end r (q ∷ qs) rise).2 (suc k) (omega arith)
    (inr (omega arith, same disorder.1))
  where
    same : (get_or qs k (range 0 0)).first ≤ (get_or (r ∷ q ∷ qs) (suc (suc k) - 1) (range 0 0)).last
        → (get_or qs k (range 0 0)).first ≤ (get_or (q ∷ qs) (suc k - 1) (range 0 0)).last
    same le =
        let here : suc (suc k) - 1 ≡ suc k = omega arith in
        let there : suc k - 1 ≡ k = omega arith in
        rw there (rw here at le)

pub rise_faultless : (rs : List ReadRange) → IsTrue (rise_after 0 rs) ↔ IsFaultless rs
rise_faultless rs = (faultless_after 0 rs, λ faultless. rises 0 rs (begins_at_one rs faultless) faultless)

-- so does a search for its first fault
pub rise_told : (rs : List ReadRange) (found : Option ℕ) (told : Bool) → is_some found ≡ not told
    → MatchOption found (IsFaultless rs) (IsFirstFault rs) → told ≡ rise_after 0 rs
rise_told rs None true told faultless = sym ((rise_faultless rs).1 faultless)
rise_told rs None false told faultless = absurd (false≢true told)
rise_told rs (Some i) true told fault = absurd (false≢true (sym told))
rise_told rs (Some i) false told fault =
    elim (rise_after 0 rs) as (λ b. rise_after 0 rs ≡ b → false ≡ b) [
      | true ↦ λ e. absurd ((rise_faultless rs).0 e i fault.within fault.faulty)
      | false ↦ λ e. refl
    ] refl
