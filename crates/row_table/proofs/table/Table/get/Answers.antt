use Rattle.std.proofs.Common.{sym, ap, ◌∙◌}
use Rattle.row_table.specs.Tables.{row_of}
use Rattle.row_table.proofs.Keeping.{row_of-tabled, IsByNumber-tabled}
use Rattle.row_table.proofs.table.Table.get.Goals as goal

pub returns-clause-row : goal.returns-clause-row
returns-clause-row g c =
    c.get.ensures.value
    ∙ sym (row_of-tabled g.K.Keyed.number_of c.self.inside.rows c.self.invariant c.args.number)
    ∙ ap (λ t. row_of g.K.Keyed.number_of c.args.number t.rows) c.self.view_is

pub returns-clause-rising : goal.returns-clause-rising
returns-clause-rising g c = rw (← c.self.view_is) (IsByNumber-tabled g.K.Keyed.number_of c.self.inside.rows)
