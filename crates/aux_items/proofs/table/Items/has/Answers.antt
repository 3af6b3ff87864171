use Rattle.std.proofs.Common.{◌∙◌}
use Rattle.aux_items.proofs.Finding.{is_found}
use Rattle.aux_items.proofs.table.Items.has.Goals as goal

pub returns : goal.returns
returns c =
    rw (← c.self.view_is)
    (c.is_some.ensures
    ∙ is_found c.self.inside.rows.slots _ c.self.invariant c.args.on_text c.args.object c.args.number
    c.list-places.result.now c.list-places.ensures c.place_of.result c.place_of.ensures)
