use Rattle.std.proofs.Common.{length, filter, sym, ap, ◌∙◌}
use Rattle.std.proofs.lemmas.List.{length-map}
use Rattle.kom_types.specs.declared.aux_items.ItemRow.{ItemRow}
use Rattle.kom_types.specs.tables.AuxItems.{is_item_of}
use Rattle.row_slots.specs.Slots.{rows_in}
use Rattle.row_slots.proofs.Places.{length-places_of}
use Rattle.aux_items.proofs.table.Items.count_of.Goals as goal

pub returns : goal.returns
returns c =
    let slots = c.self.inside.rows.slots in
    let test = is_item_of c.args.on_text c.args.object in
    rw (← c.self.view_is)
    (ap length (c.list.ensures ∙ c.self.invariant.listed c.args.on_text c.args.object)
    ∙ length-places_of test slots ∙ sym (length-map (filter test (rows_in slots)) (λ (row : ItemRow). row.item)))
