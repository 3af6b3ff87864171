use Rattle.std.proofs.Common.{option_copied, option_map, sym, ap, ◌∙◌}
use Rattle.std.specs.Option.{option_flatten}
use Rattle.row_slots.specs.DenseLists.{dense_list}
use Rattle.row_slots.proofs.Places.{row_at}
use Rattle.misc_links.specs.Receiving.{is_of}
use Rattle.row_slots.proofs.Passing.{none_of, read_of, nth}
use Rattle.misc_links.proofs.recipients.Recipients.nth_of.Goals as goal

pub returns-in_err-place : goal.returns-in_err-place
returns-in_err-place c =
    let places = dense_list c.self.inside.by_text c.args.text in
    let none = none_of places c.list.result.now c.args.place c.list.ensures c.in_err-place.ensures.lookup.3 in
    rw (← c.self.view_is)
    (ap option_copied c.from_residual.ensures
    ∙ sym (nth (is_of c.args.text) c.self.inside.rows.slots places c.args.place (c.self.invariant.listed c.args.text)
    ∙ ap (λ o. option_flatten (option_map (row_at c.self.inside.rows.slots) o)) none))

pub returns : goal.returns
returns c =
    let places = dense_list c.self.inside.by_text c.args.text in
    let gives = c.in_ok-place.ensures.lookup in
    let at = read_of places c.list.result.now c.args.place c.in_ok-place.field-0.now c.list.ensures gives.3.0 gives.1 in
    rw (← c.self.view_is)
    (c.get-2.ensures
    ∙ sym (nth (is_of c.args.text) c.self.inside.rows.slots places c.args.place (c.self.invariant.listed c.args.text)
    ∙ ap (λ o. option_flatten (option_map (row_at c.self.inside.rows.slots) o)) at))
