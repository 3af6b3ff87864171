use Rattle.std.proofs.Common.{option_map, sym, ap, ◌∙◌}
use Rattle.std.specs.Option.{option_flatten}
use Rattle.row_slots.proofs.Places.{row_at}
use Rattle.marks.proofs.Finding.{mark_found}
use Rattle.marks.proofs.table.MarkTable.get.Goals as goal

pub returns-in_err-place : goal.returns-in_err-place
returns-in_err-place c =
    rw (← c.self.view_is)
    (c.from_residual.ensures
    ∙ sym (mark_found c.self.inside.rows.slots _ _ c.self.invariant c.args.person c.args.text c.list.result.now
    c.list.ensures c.place_of.result c.place_of.ensures
    ∙ ap (λ o. option_flatten (option_map (row_at c.self.inside.rows.slots) o)) c.in_err-place.was))

pub returns : goal.returns
returns c =
    rw (← c.self.view_is)
    (c.copied.ensures ∙ c.get.ensures
    ∙ sym (mark_found c.self.inside.rows.slots _ _ c.self.invariant c.args.person c.args.text c.list.result.now
    c.list.ensures c.place_of.result c.place_of.ensures
    ∙ ap (λ o. option_flatten (option_map (row_at c.self.inside.rows.slots) o)) c.in_ok-place.was))
