use Rattle.std.proofs.Common.{is_some, option_map, sym, ap, ◌∙◌}
use Rattle.std.specs.Option.{option_flatten}
use Rattle.row_slots.specs.Slots.{rows_in}
use Rattle.row_slots.proofs.Places.{row_at}
use Rattle.misc_links.proofs.Finding.{link_found, row_found}
use Rattle.misc_links.proofs.Rooms.{rooms_stay}
use Rattle.misc_links.proofs.Updates.{without_none, from_has, into_has, rows_left, IsKept-left}
use Rattle.misc_links.proofs.links.Links.remove.Goals as goal

pub returns-in_default-clause-there : goal.returns-in_default-clause-there
returns-in_default-clause-there c =
    rw (← c.self.view_is)
    (sym (ap is_some
    (link_found c.self.inside.rows.slots _ _ c.self.invariant c.args.child c.args.parent c.args.footnote
    c.list-places.result.now c.list-places.ensures c.place_into.result c.place_into.ensures
    ∙ ap (λ o. option_flatten (option_map (row_at c.self.inside.rows.slots) o)) c.in_default.is)))

pub returns-in_default-clause-links : goal.returns-in_default-clause-links
returns-in_default-clause-links c =
    rw (← c.self.view_is)
    (sym (without_none c.args.child c.args.parent c.args.footnote (rows_in c.self.inside.rows.slots)
    (link_found c.self.inside.rows.slots _ _ c.self.invariant c.args.child c.args.parent c.args.footnote
    c.list-places.result.now c.list-places.ensures c.place_into.result c.place_into.ensures
    ∙ ap (λ o. option_flatten (option_map (row_at c.self.inside.rows.slots) o)) c.in_default.is)))

pub remove-requires : goal.remove-requires
remove-requires c =
    let row = row_found c.self.inside.rows.slots _ _ c.self.invariant c.args.child c.args.parent c.args.footnote
    c.list-places.result.now c.list-places.ensures c.in-Some.place (sym c.in-Some.is ∙ c.place_into.ensures) in
    from_has c.self.inside.rows.slots _ _ c.self.invariant c.args.child c.args.parent c.args.footnote c.in-Some.place
    row.0 row.1 row.3

pub remove-requires-2 : goal.remove-requires-2
remove-requires-2 c =
    let row = row_found c.self.inside.rows.slots _ _ c.self.invariant c.args.child c.args.parent c.args.footnote
    c.list-places.result.now c.list-places.ensures c.in-Some.place (sym c.in-Some.is ∙ c.place_into.ensures) in
    into_has c.self.inside.rows.slots _ _ c.self.invariant c.args.child c.args.parent c.args.footnote c.in-Some.place
    row.0 row.1 row.3

pub invariant_of-self : goal.invariant_of-self
invariant_of-self c =
    let row = row_found c.self.inside.rows.slots _ _ c.self.invariant c.args.child c.args.parent c.args.footnote
    c.list-places.result.now c.list-places.ensures c.in-Some.place (sym c.in-Some.is ∙ c.place_into.ensures) in
    rw c.take-link.ensures.slots
    (IsKept-left c.self.inside.rows.slots _ _ c.self.invariant c.args.child c.args.parent c.args.footnote
    c.in-Some.place row.0 row.1 row.3 _ _ c.remove.ensures.lists c.remove-2.ensures.lists)

pub returns-clause-there : goal.returns-clause-there
returns-clause-there c =
    let row = row_found c.self.inside.rows.slots _ _ c.self.invariant c.args.child c.args.parent c.args.footnote
    c.list-places.result.now c.list-places.ensures c.in-Some.place (sym c.in-Some.is ∙ c.place_into.ensures) in
    rw (← c.self.view_is) (sym (ap is_some row.2))

pub returns-clause-links : goal.returns-clause-links
returns-clause-links c =
    let row = row_found c.self.inside.rows.slots _ _ c.self.invariant c.args.child c.args.parent c.args.footnote
    c.list-places.result.now c.list-places.ensures c.in-Some.place (sym c.in-Some.is ∙ c.place_into.ensures) in
    rw (← c.self.view_is)
    (ap rows_in c.take-link.ensures.slots
    ∙ rows_left c.self.inside.rows.slots _ _ c.self.invariant c.args.child c.args.parent c.args.footnote
    c.in-Some.place row.0 row.1 row.3)

pub returns-clause-room : goal.returns-clause-room
returns-clause-room c =
    rw (← c.self.view_is)
    (record {
      spare = c.take-link.ensures.spare;
      from = rooms_stay c.self.inside.from c.remove.new.self c.remove.ensures.room;
      into = rooms_stay c.self.inside.into c.remove-2.new.self c.remove-2.ensures.room;
    })
