use Rattle.std.proofs.Common.{is_some, option_map, sym, ap, ◌∙◌}
use Rattle.std.specs.Option.{option_flatten}
use Rattle.kom_types.specs.tables.Texts.{with_mark}
use Rattle.row_slots.specs.Slots.{rows_in}
use Rattle.row_slots.proofs.Places.{row_at}
use Rattle.marks.specs.Marked.{Marked}
use Rattle.marks.proofs.Finding.{mark_found, row_found}
use Rattle.marks.proofs.Updates.{with_again, rows_changed, IsKept-changed}
use Rattle.marks.proofs.table.MarkTable.change.Goals as goal

pub returns-in_default-clause-there : goal.returns-in_default-clause-there
returns-in_default-clause-there c =
    rw (← c.self.view_is)
    (sym (ap is_some
    (mark_found c.self.inside.rows.slots _ _ c.self.invariant c.args.row.person c.args.row.text
    c.list-places.result.now c.list-places.ensures c.place_of.result c.place_of.ensures
    ∙ ap (λ o. option_flatten (option_map (row_at c.self.inside.rows.slots) o)) c.in_default.is)))

pub invariant_of-self : goal.invariant_of-self
invariant_of-self c =
    let row = row_found c.self.inside.rows.slots _ _ c.self.invariant c.args.row.person c.args.row.text
    c.list-places.result.now c.list-places.ensures c.in-Some.place (sym c.in-Some.is ∙ c.place_of.ensures) in
    rw c.set.ensures.slots
    (IsKept-changed c.self.inside.rows.slots _ _ c.self.invariant c.args.row c.in-Some.place row.0 row.1 row.3)

pub returns-clause-there : goal.returns-clause-there
returns-clause-there c =
    let row = row_found c.self.inside.rows.slots _ _ c.self.invariant c.args.row.person c.args.row.text
    c.list-places.result.now c.list-places.ensures c.in-Some.place (sym c.in-Some.is ∙ c.place_of.ensures) in
    rw (← c.self.view_is) (sym (ap is_some row.2))

pub returns-clause-marks : goal.returns-clause-marks
returns-clause-marks c =
    let row = row_found c.self.inside.rows.slots _ _ c.self.invariant c.args.row.person c.args.row.text
    c.list-places.result.now c.list-places.ensures c.in-Some.place (sym c.in-Some.is ∙ c.place_of.ensures) in
    ap rows_in c.set.ensures.slots
    ∙ rows_changed c.self.inside.rows.slots _ _ c.self.invariant c.args.row c.in-Some.place row.0 row.1 row.3
    ∙ sym (with_again c.args.row row.0 (rows_in c.self.inside.rows.slots) row.2)
    ∙ ap (λ (t : Marked). with_mark c.args.row t.marks) c.self.view_is
