use Rattle.std.proofs.Common.{length, sym, ap, ◌∙◌}
use Rattle.row_table.proofs.Keeping.{length-tabled, IsByNumber-tabled}
use Rattle.row_table.proofs.table.Table.len.Goals as goal

pub returns-clause-len : goal.returns-clause-len
returns-clause-len g c =
    c.len.ensures.len ∙ sym (length-tabled g.K.Keyed.number_of c.self.inside.rows c.self.invariant)
    ∙ ap (λ t. length t.rows) c.self.view_is

pub returns-clause-rising : goal.returns-clause-rising
returns-clause-rising g c = rw (← c.self.view_is) (IsByNumber-tabled g.K.Keyed.number_of c.self.inside.rows)
