use Rattle.std.proofs.Common.{is_some, nat_eq, option_map, sym, ap, ◌∙◌, arith}
use Rattle.std.specs.Option.{option_flatten}
use Rattle.std.specs.Set.{remove_key}
use Rattle.row_slots.specs.Slots.{rows_in}
use Rattle.row_slots.proofs.Places.{row_at}
use Rattle.row_slots.proofs.Rooms.{rooms_stay, no_room_falls}
use Rattle.marks.proofs.Finding.{mark_found, row_found}
use Rattle.marks.proofs.OneList.{has_changed}
use Rattle.marks.proofs.Updates.{without_none, of_has, on_has, rows_left, IsKept-left}
use Rattle.marks.proofs.table.MarkTable.remove.Goals as goal

pub returns-in_default-clause-there : goal.returns-in_default-clause-there
returns-in_default-clause-there c =
    rw (← c.self.view_is)
    (sym (ap is_some
    (mark_found c.self.inside.rows.slots _ _ c.self.invariant c.args.person c.args.text c.list.result.now
    c.list.ensures c.place_of.result c.place_of.ensures
    ∙ ap (λ o. option_flatten (option_map (row_at c.self.inside.rows.slots) o)) c.in_default.is)))

pub returns-in_default-clause-marks : goal.returns-in_default-clause-marks
returns-in_default-clause-marks c =
    rw (← c.self.view_is)
    (sym (without_none c.args.person c.args.text (rows_in c.self.inside.rows.slots)
    (mark_found c.self.inside.rows.slots _ _ c.self.invariant c.args.person c.args.text c.list.result.now
    c.list.ensures c.place_of.result c.place_of.ensures
    ∙ ap (λ o. option_flatten (option_map (row_at c.self.inside.rows.slots) o)) c.in_default.is)))

pub remove-requires : goal.remove-requires
remove-requires c =
    let row = row_found c.self.inside.rows.slots _ _ c.self.invariant c.args.person c.args.text c.list.result.now
    c.list.ensures c.in-Some.place (sym c.in-Some.is ∙ c.place_of.ensures) in
    of_has c.self.inside.rows.slots _ _ c.self.invariant c.args.person c.args.text c.in-Some.place row.0 row.1 row.3

pub remove-requires-2 : goal.remove-requires-2
remove-requires-2 c =
    let row = row_found c.self.inside.rows.slots _ _ c.self.invariant c.args.person c.args.text c.list.result.now
    c.list.ensures c.in-Some.place (sym c.in-Some.is ∙ c.place_of.ensures) in
    on_has c.self.inside.rows.slots _ _ c.self.invariant c.args.person c.args.text c.in-Some.place row.0 row.1 row.3

pub invariant_of-self : goal.invariant_of-self
invariant_of-self c =
    let row = row_found c.self.inside.rows.slots _ _ c.self.invariant c.args.person c.args.text c.list.result.now
    c.list.ensures c.in-Some.place (sym c.in-Some.is ∙ c.place_of.ensures) in
    rw c.take-mark.ensures.slots
    (IsKept-left c.self.inside.rows.slots _ _ c.self.invariant c.args.person c.args.text c.in-Some.place
    row.0 row.1 row.3 _ _
    (has_changed c.args.person (remove_key (nat_eq c.in-Some.place)) _ _ c.remove.ensures.others c.remove.ensures.list)
    (has_changed c.args.text (remove_key (nat_eq c.in-Some.place)) _ _ c.remove-2.ensures.others
    c.remove-2.ensures.list))

pub returns-clause-there : goal.returns-clause-there
returns-clause-there c =
    let row = row_found c.self.inside.rows.slots _ _ c.self.invariant c.args.person c.args.text c.list.result.now
    c.list.ensures c.in-Some.place (sym c.in-Some.is ∙ c.place_of.ensures) in
    rw (← c.self.view_is) (sym (ap is_some row.2))

pub returns-clause-marks : goal.returns-clause-marks
returns-clause-marks c =
    let row = row_found c.self.inside.rows.slots _ _ c.self.invariant c.args.person c.args.text c.list.result.now
    c.list.ensures c.in-Some.place (sym c.in-Some.is ∙ c.place_of.ensures) in
    rw (← c.self.view_is)
    (ap rows_in c.take-mark.ensures.slots
    ∙ rows_left c.self.inside.rows.slots _ _ c.self.invariant c.args.person c.args.text c.in-Some.place
    row.0 row.1 row.3)

pub returns-clause-room : goal.returns-clause-room
returns-clause-room c =
    rw (← c.self.view_is)
    (record {
      spare = c.take-mark.ensures.spare;
      persons = rooms_stay c.self.inside.of_person c.remove.new.self
          (no_room_falls _ _ c.args.person c.remove.ensures.others (omega (arith, c.remove.ensures.room)));
      texts = rooms_stay c.self.inside.on_text c.remove-2.new.self
          (no_room_falls _ _ c.args.text c.remove-2.ensures.others (omega (arith, c.remove-2.ensures.room)));
    })
