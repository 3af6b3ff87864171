use Rattle.std.proofs.Common.{ap, sym, ◌∙◌}
use Rattle.row_slots.specs.Slots.{spread}
use Rattle.row_slots.proofs.Blocks.{get-spread, spread-emptied}
use Rattle.row_slots.proofs.block.Block.take_row.Goals as goal

pub returns-clause-row : goal.returns-clause-row
returns-clause-row g c =
    rw (← c.self.view_is) (c.take_at.ensures.row ∙ sym (get-spread c.self.inside.slots.items c.args.place))

pub returns-clause-slots : goal.returns-clause-slots
returns-clause-slots g c = rw (← c.self.view_is)
    (ap spread c.take_at.ensures.slots ∙ spread-emptied c.args.place c.self.inside.slots.items)
