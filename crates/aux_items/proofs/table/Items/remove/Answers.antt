use Rattle.std.proofs.Common.{is_some, option_map, sym, ap, ◌∙◌}
use Rattle.std.specs.Option.{option_flatten}
use Rattle.row_slots.specs.Slots.{rows_in}
use Rattle.row_slots.proofs.Places.{row_at}
use Rattle.aux_items.proofs.Finding.{item_found, row_found}
use Rattle.aux_items.proofs.Rooms.{rooms_stay}
use Rattle.aux_items.proofs.Updates.{without_none, has_place, rows_left, IsKept-left}
use Rattle.aux_items.proofs.table.Items.remove.Goals as goal

pub returns-in_default-clause-there : goal.returns-in_default-clause-there
returns-in_default-clause-there c =
    let slots = c.self.inside.rows.slots in
    rw (← c.self.view_is)
    (sym (ap is_some
    (item_found slots _ c.self.invariant c.args.on_text c.args.object c.args.number
    c.list-places.result.now c.list-places.ensures c.place_of.result c.place_of.ensures
    ∙ ap (λ o. option_flatten (option_map (row_at slots) o)) c.in_default.is)))

pub returns-in_default-clause-rows : goal.returns-in_default-clause-rows
returns-in_default-clause-rows c =
    let slots = c.self.inside.rows.slots in
    rw (← c.self.view_is)
    (sym (without_none c.args.on_text c.args.object c.args.number (rows_in slots)
    (item_found slots _ c.self.invariant c.args.on_text c.args.object c.args.number
    c.list-places.result.now c.list-places.ensures c.place_of.result c.place_of.ensures
    ∙ ap (λ o. option_flatten (option_map (row_at slots) o)) c.in_default.is)))

pub remove-requires : goal.remove-requires
remove-requires c =
    let row = row_found c.self.inside.rows.slots _ c.self.invariant c.args.on_text c.args.object c.args.number
    c.list-places.result.now c.list-places.ensures c.in-Some.place (sym c.in-Some.is ∙ c.place_of.ensures) in
    has_place c.self.inside.rows.slots _ c.self.invariant c.args.on_text c.args.object c.args.number c.in-Some.place
    row.0 row.1 row.3

pub invariant_of-self : goal.invariant_of-self
invariant_of-self c =
    let row = row_found c.self.inside.rows.slots _ c.self.invariant c.args.on_text c.args.object c.args.number
    c.list-places.result.now c.list-places.ensures c.in-Some.place (sym c.in-Some.is ∙ c.place_of.ensures) in
    rw c.take-row.ensures.slots
    (IsKept-left c.self.inside.rows.slots _ c.self.invariant c.args.on_text c.args.object c.args.number
    c.in-Some.place row.0 row.1 row.3 _ c.remove.ensures.lists)

pub returns-clause-there : goal.returns-clause-there
returns-clause-there c =
    let row = row_found c.self.inside.rows.slots _ c.self.invariant c.args.on_text c.args.object c.args.number
    c.list-places.result.now c.list-places.ensures c.in-Some.place (sym c.in-Some.is ∙ c.place_of.ensures) in
    rw (← c.self.view_is) (sym (ap is_some row.2))

pub returns-clause-rows : goal.returns-clause-rows
returns-clause-rows c =
    let row = row_found c.self.inside.rows.slots _ c.self.invariant c.args.on_text c.args.object c.args.number
    c.list-places.result.now c.list-places.ensures c.in-Some.place (sym c.in-Some.is ∙ c.place_of.ensures) in
    rw (← c.self.view_is)
    (ap rows_in c.take-row.ensures.slots
    ∙ rows_left c.self.inside.rows.slots _ c.self.invariant c.args.on_text c.args.object c.args.number
    c.in-Some.place row.0 row.1 row.3)

pub returns-clause-room : goal.returns-clause-room
returns-clause-room c =
    rw (← c.self.view_is)
    (record {
      spare = c.take-row.ensures.spare;
      of_objects = rooms_stay c.self.inside.of_objects c.remove.new.self c.remove.ensures.room;
    })
