use Rattle.std.proofs.Common.{option_copied, option_map, sym, ap, ◌∙◌}
use Rattle.std.specs.Option.{option_flatten}
use Rattle.kom_types.specs.tables.AuxItems.{is_item_of}
use Rattle.row_slots.proofs.Passing.{none_of, read_of, nth}
use Rattle.row_slots.proofs.Places.{row_at}
use Rattle.aux_items.specs.Objects.{list_at}
use Rattle.aux_items.proofs.table.Items.nth_row.Goals as goal

pub returns-in_err-place : goal.returns-in_err-place
returns-in_err-place c =
    let slots = c.self.inside.rows.slots in
    let places = list_at c.self.inside.of_objects c.args.on_text c.args.object in
    let none = none_of places c.list.result.now c.args.place c.list.ensures c.in_err-place.ensures.lookup.3 in
    rw (← c.self.view_is)
    (ap option_copied c.from_residual.ensures
    ∙ sym (nth (is_item_of c.args.on_text c.args.object) slots places c.args.place
    (c.self.invariant.listed c.args.on_text c.args.object)
    ∙ ap (λ o. option_flatten (option_map (row_at slots) o)) none))

pub returns : goal.returns
returns c =
    let slots = c.self.inside.rows.slots in
    let places = list_at c.self.inside.of_objects c.args.on_text c.args.object in
    let gives = c.in_ok-place.ensures.lookup in
    let at = read_of places c.list.result.now c.args.place c.in_ok-place.field-0.now c.list.ensures gives.3.0 gives.1 in
    rw (← c.self.view_is)
    (c.get-2.ensures
    ∙ sym (nth (is_item_of c.args.on_text c.args.object) slots places c.args.place
    (c.self.invariant.listed c.args.on_text c.args.object)
    ∙ ap (λ o. option_flatten (option_map (row_at slots) o)) at))
