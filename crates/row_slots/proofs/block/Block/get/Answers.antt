use Rattle.std.proofs.Common.{sym, ◌∙◌}
use Rattle.row_slots.proofs.Blocks.{get-spread}
use Rattle.row_slots.proofs.block.Block.get.Goals as goal

pub returns : goal.returns
returns g c = rw (← c.self.view_is) (c.row_at.ensures ∙ sym (get-spread c.self.inside.slots.items c.args.place))
