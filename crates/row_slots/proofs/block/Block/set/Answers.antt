use Rattle.std.proofs.Common.{ap, ◌∙◌}
use Rattle.row_slots.specs.Slots.{spread}
use Rattle.row_slots.proofs.Blocks.{spread-replaced}
use Rattle.row_slots.proofs.block.Block.set.Goals as goal

pub returns : goal.returns
returns g c = rw (← c.self.view_is)
    (ap spread c.set_at.ensures.slots ∙ spread-replaced c.args.place c.args.row c.self.inside.slots.items)
