use Rattle.std.proofs.Common.{option_copied, option_map, sym, ap, ◌∙◌}
use Rattle.std.specs.Option.{option_flatten}
use Rattle.row_slots.proofs.Places.{row_at}
use Rattle.misc_links.specs.Keeping.{is_from}
use Rattle.misc_links.specs.Kinds.{list_at}
use Rattle.row_slots.proofs.Passing.{none_of, read_of, nth}
use Rattle.misc_links.proofs.links.Links.nth_from.Goals as goal

pub returns-in_err-place : goal.returns-in_err-place
returns-in_err-place c =
    let places = list_at c.self.inside.from c.args.text c.args.footnote in
    let none = none_of places c.list.result.now c.args.place c.list.ensures c.in_err-place.ensures.lookup.3 in
    rw (← c.self.view_is)
    (ap option_copied c.from_residual.ensures
    ∙ sym (nth (is_from c.args.text c.args.footnote) c.self.inside.rows.slots places c.args.place
    (c.self.invariant.listed_from c.args.text c.args.footnote)
    ∙ ap (λ o. option_flatten (option_map (row_at c.self.inside.rows.slots) o)) none))

pub returns : goal.returns
returns c =
    let places = list_at c.self.inside.from c.args.text c.args.footnote in
    let gives = c.in_ok-place.ensures.lookup in
    let at = read_of places c.list.result.now c.args.place c.in_ok-place.field-0.now c.list.ensures gives.3.0 gives.1 in
    rw (← c.self.view_is)
    (c.get-2.ensures
    ∙ sym (nth (is_from c.args.text c.args.footnote) c.self.inside.rows.slots places c.args.place
    (c.self.invariant.listed_from c.args.text c.args.footnote)
    ∙ ap (λ o. option_flatten (option_map (row_at c.self.inside.rows.slots) o)) at))
