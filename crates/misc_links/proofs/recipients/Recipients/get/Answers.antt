use Rattle.std.proofs.Common.{option_copied, option_map, sym, ap, ◌∙◌}
use Rattle.std.specs.Option.{option_flatten}
use Rattle.row_slots.proofs.Places.{row_at}
use Rattle.misc_links.proofs.Receiving.{recipient_found}
use Rattle.misc_links.proofs.recipients.Recipients.get.Goals as goal

pub returns-in_err-place : goal.returns-in_err-place
returns-in_err-place c =
    rw (← c.self.view_is)
    (ap option_copied c.from_residual.ensures
    ∙ sym (recipient_found c.self.inside.rows.slots _ c.self.invariant c.args.text c.args.conference
    c.list.result.now c.list.ensures c.place_of.result c.place_of.ensures
    ∙ ap (λ o. option_flatten (option_map (row_at c.self.inside.rows.slots) o)) c.in_err-place.was))

pub returns : goal.returns
returns c =
    rw (← c.self.view_is)
    (c.get.ensures
    ∙ sym (recipient_found c.self.inside.rows.slots _ c.self.invariant c.args.text c.args.conference
    c.list.result.now c.list.ensures c.place_of.result c.place_of.ensures
    ∙ ap (λ o. option_flatten (option_map (row_at c.self.inside.rows.slots) o)) c.in_ok-place.was))
