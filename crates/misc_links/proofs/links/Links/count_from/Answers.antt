use Rattle.std.proofs.Common.{length, ap, ◌∙◌}
use Rattle.row_slots.proofs.Places.{length-places_of}
use Rattle.misc_links.specs.Keeping.{is_from}
use Rattle.misc_links.proofs.links.Links.count_from.Goals as goal

pub returns : goal.returns
returns c =
    rw (← c.self.view_is)
    (ap length (c.list.ensures ∙ c.self.invariant.listed_from c.args.text c.args.footnote)
    ∙ length-places_of (is_from c.args.text c.args.footnote) c.self.inside.rows.slots)
