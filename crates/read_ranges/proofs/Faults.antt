-- What a caller needs that asks for the faults of a list range by range.
use borrow.Author.Count.{below_more}
use Rattle.std.proofs.Common.{ℕ, ◌+◌, List, None, inl, inr, ◌⊎◌}
use Rattle.kom_types.specs.declared.memberships.ReadRange.{ReadRange}
use Rattle.read_ranges.specs.ListFault.{IsInvalidAt, IsOutOfOrderAt, IsFaultAt, IsFaultlessBelow}

-- after a range with no fault, one more is faultless
pub faultless_more : (rs : List ReadRange) (i : ℕ) → IsFaultlessBelow rs i → IsFaultAt rs i None →
    IsFaultlessBelow rs (i + 1)
faultless_more rs i below here =
    below_more (λ k. ¬ (IsInvalidAt rs k ⊎ IsOutOfOrderAt rs k)) i below (λ fault. elim fault [
      | inl invalid ↦ here.0 invalid
      | inr disorder ↦ here.1 disorder
    ])
