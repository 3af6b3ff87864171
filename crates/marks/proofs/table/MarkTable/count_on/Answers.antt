use Rattle.std.proofs.Common.{length, ap, ◌∙◌}
use Rattle.row_slots.proofs.Places.{length-places_of}
use Rattle.marks.specs.Keeping.{is_on}
use Rattle.marks.proofs.table.MarkTable.count_on.Goals as goal

pub returns : goal.returns
returns c =
    rw (← c.self.view_is)
    (ap length (c.list.ensures ∙ c.self.invariant.listed_on c.args.text)
    ∙ length-places_of (is_on c.args.text) c.self.inside.rows.slots)
