use Rattle.std.proofs.Common.{◌≡◌, ℕ, Bool, true, ◌&&◌, List, inl, inr, true≢false, ap, arith}
use Rattle.std.specs.List.{count_by}
use Rattle.std.proofs.lemmas.Bool.{cases_Bool}
use Rattle.row_slots.specs.Lists.{list_of}
use Rattle.memberships.specs.Secrets.{one_if}
use Rattle.memberships.proofs.Secrets.{counted_without}
use Rattle.memberships.proofs.table.secrets.relist.Goals as goal

pub returns-else-is-clause-list : goal.returns-else-is-clause-list
returns-else-is-clause-list c =
    λ test.
    -- what is not now, and was otherwise, was
    let was : c.args.was ≡ true = elim (cases_Bool c.args.was) [
      | inl is ↦ is
      | inr other ↦ absurd (true≢false (rw (other, c.if-is.false) at c.if-was-is.false))
    ] in
    omega (
      arith,
      counted_without test c.args.number (list_of c.args.lists.now c.args.key) (c.requires.there was c.if-is.false),
      ap (λ (list : List ℕ). count_by test list) c.remove.ensures.list,
      ap (λ (b : Bool). one_if (b && test c.args.number)) was,
      ap (λ (b : Bool). one_if (b && test c.args.number)) c.if-is.false,
    )
