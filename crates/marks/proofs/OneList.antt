-- Lists and their rooms after a change of one list.
use Rattle.std.proofs.Common.{◌≡◌, ℕ, ◌≤◌, ◌<◌, cond, eqb, true, false, List, Result, Ok, Err, OnErr, inl, inr, sym}
use Rattle.std.proofs.Common.{subst}
use Rattle.std.proofs.lemmas.Bool.{cases_eq, cases_lt, eq-eqb, ne_eqb}
use Rattle.row_slots.specs.declared.lists.Lists.{Lists}
use Rattle.row_slots.specs.Lists.{list_of, HasOnlyChanged}

module _ (key : ℕ) (change : List ℕ → List ℕ) where
  -- the list of a key has changed
  abbrev pub HasChanged : Lists → Lists → Type 0
  HasChanged old new = (other : ℕ) →
      list_of new other ≡ cond (eqb key other) (change (list_of old other)) (list_of old other)

  pub has_changed : (old new : Lists) → HasOnlyChanged old new key → list_of new key ≡ change (list_of old key) →
      HasChanged old new
  has_changed old new only here other = elim (cases_eq key other) [
    | inl is ↦
        let same : eqb key other ≡ true = eq-eqb key other is in
        rw same (subst (λ k. list_of new k ≡ change (list_of old k)) is here)
    | inr unlike ↦
        let apart : eqb key other ≡ false = ne_eqb key other unlike in
        rw apart (only.lists other (λ e. unlike (sym e)))
  ]

pub on_err : {T E : Type 0} (result : Result T E) (P : Type 0) → P → OnErr result P
on_err (Ok done) P holds = tt
on_err (Err error) P holds = holds

-- where so many do not fit, there is room for fewer
pub too_many : (additional room : ℕ) → (additional ≤ room → ⊥) → room < additional
too_many additional room fails = elim (cases_lt room additional) [
  | inl less ↦ less
  | inr fits ↦ absurd (fails fits)
]
