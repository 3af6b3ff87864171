use Rattle.std.proofs.Common.{option_copied, option_map, sym, ap, ◌∙◌}
use Rattle.std.specs.Option.{option_flatten}
use Rattle.row_slots.proofs.Places.{row_at}
use Rattle.misc_links.proofs.Finding.{link_found}
use Rattle.misc_links.proofs.links.Links.get_from.Goals as goal

pub returns-in_err-place : goal.returns-in_err-place
returns-in_err-place c =
    rw (← c.self.view_is)
    (ap option_copied c.from_residual.ensures
    ∙ sym (link_found c.self.inside.rows.slots _ _ c.self.invariant c.args.child c.args.parent c.args.footnote
    c.list.result.now c.list.ensures c.place_into.result c.place_into.ensures
    ∙ ap (λ o. option_flatten (option_map (row_at c.self.inside.rows.slots) o)) c.in_err-place.was))

pub returns : goal.returns
returns c =
    rw (← c.self.view_is)
    (c.get.ensures
    ∙ sym (link_found c.self.inside.rows.slots _ _ c.self.invariant c.args.child c.args.parent c.args.footnote
    c.list.result.now c.list.ensures c.place_into.result c.place_into.ensures
    ∙ ap (λ o. option_flatten (option_map (row_at c.self.inside.rows.slots) o)) c.in_ok-place.was))
