-- The list of each key, and the room in it, after a change of the list of one key.
use Rattle.std.proofs.Common.{◌≡◌, ℕ, ◌+◌, ◌≤◌, true, false, cond, eqb, List, inl, inr, sym, subst, arith}
use Rattle.std.proofs.lemmas.Bool.{cases_eq, eq-eqb, ne_eqb}
use Rattle.row_slots.specs.declared.dense_lists.DenseLists.{DenseLists}
use Rattle.row_slots.specs.DenseLists.{dense_list, dense_room, HasOnlyDenseChanged}

module _ (key : ℕ) (old new : DenseLists) (only : HasOnlyDenseChanged old new key) where
  pub has_changed : (change : List ℕ → List ℕ) → dense_list new key ≡ change (dense_list old key) → (other : ℕ) →
      dense_list new other ≡ cond (eqb key other) (change (dense_list old other)) (dense_list old other)
  has_changed change here other = elim (cases_eq key other) [
    | inl is ↦
        let same : eqb key other ≡ true = eq-eqb key other is in
        rw same (subst (λ k. dense_list new k ≡ change (dense_list old k)) is here)
    | inr unlike ↦
        let apart : eqb key other ≡ false = ne_eqb key other unlike in
        rw apart (only.lists other (λ e. unlike (sym e)))
  ]

  -- one place at most is used, of the list of the key
  pub uses_one : dense_room old key ≤ dense_room new key + 1 → (other : ℕ) →
      dense_room old other ≤ dense_room new other + cond (eqb key other) 1 0
  uses_one here other = elim (cases_eq key other) [
    | inl is ↦
        let same : eqb key other ≡ true = eq-eqb key other is in
        rw same (subst (λ k. dense_room old k ≤ dense_room new k + 1) is here)
    | inr unlike ↦
        let apart : eqb key other ≡ false = ne_eqb key other unlike in
        rw apart (omega (arith, only.rooms other (λ e. unlike (sym e))))
  ]
