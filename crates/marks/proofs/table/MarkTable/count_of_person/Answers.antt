use Rattle.std.proofs.Common.{◌≡◌, length, filter, sym, ap, ◌∙◌}
use Rattle.row_slots.specs.Slots.{rows_in}
use Rattle.row_slots.proofs.Places.{length-places_of}
use Rattle.marks.specs.Keeping.{is_of}
use Rattle.marks.proofs.Rising.{length-marks_of}
use Rattle.marks.proofs.table.MarkTable.count_of_person.Goals as goal

counted : (c : goal.After-list) →
    length c.list.result.now ≡ length (filter (is_of c.args.person) (rows_in c.self.inside.rows.slots))
counted c =
    ap length (c.list.ensures ∙ c.self.invariant.listed_of c.args.person)
    ∙ length-places_of (is_of c.args.person) c.self.inside.rows.slots

pub returns-clause-count : goal.returns-clause-count
returns-clause-count c = rw (← c.self.view_is) (counted c)

pub returns-clause-shown : goal.returns-clause-shown
returns-clause-shown c =
    rw (← c.self.view_is) (counted c ∙ sym (length-marks_of c.args.person (rows_in c.self.inside.rows.slots)))
