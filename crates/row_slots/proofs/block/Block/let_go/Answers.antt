use Rattle.std.proofs.Common.{ap, sym, ◌∙◌}
use Rattle.row_slots.specs.Slots.{spread}
use Rattle.row_slots.proofs.Blocks.{spread-nones}
use Rattle.row_slots.proofs.block.Block.let_go.Goals as goal

pub returns-then-not-has_row : goal.returns-then-not-has_row
returns-then-not-has_row g c =
    rw (← c.self.view_is)
    (ap spread c.new.ensures.items
    ∙ spread-nones c.self.inside.slots.items c.self.invariant (sym c.if-not-has_row.ensures))
