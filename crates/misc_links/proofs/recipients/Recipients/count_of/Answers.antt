use Rattle.std.proofs.Common.{length, ap, ◌∙◌}
use Rattle.row_slots.proofs.Places.{length-places_of}
use Rattle.misc_links.specs.Receiving.{is_of}
use Rattle.misc_links.proofs.recipients.Recipients.count_of.Goals as goal

pub returns : goal.returns
returns c =
    rw (← c.self.view_is)
    (ap length (c.list.ensures ∙ c.self.invariant.listed c.args.text)
    ∙ length-places_of (is_of c.args.text) c.self.inside.rows.slots)
