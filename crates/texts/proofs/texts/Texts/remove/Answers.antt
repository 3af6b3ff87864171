use Rattle.std.proofs.Common.{sym, ◌∙◌}
use Rattle.texts.proofs.Created.{without_row-absent}
use Rattle.texts.proofs.Keeping.{kept-left, kept-left_unnumbered}
use Rattle.texts.proofs.texts.Texts.remove.Goals as goal

pub invariant_of-self : goal.invariant_of-self
invariant_of-self c =
    rw c.remove.ensures.rows
    (kept-left _ _ _ _ c.self.invariant c.args.number c.in-Some.row (sym c.remove.ensures.value ∙ c.in-Some.is)
    c.remove-then-row-gt0.new.self c.if-row-gt0.true c.remove-then-row-gt0.ensures.pairs
    c.remove-then-row-gt0.ensures.others)

pub invariant_of-self-else-row-gt0 : goal.invariant_of-self-else-row-gt0
invariant_of-self-else-row-gt0 c =
    rw c.remove.ensures.rows
    (kept-left_unnumbered _ _ _ _ c.self.invariant c.args.number c.in-Some.row
    (sym c.remove.ensures.value ∙ c.in-Some.is) c.if-row-gt0.false)

pub invariant_of-self-in_default : goal.invariant_of-self-in_default
invariant_of-self-in_default c =
    let stays = without_row-absent c.args.number c.self.inside.texts.rows
    (sym c.remove.ensures.value ∙ c.in_default.is) in
    rw (c.remove.ensures.rows, stays) c.self.invariant
