use Rattle.std.proofs.Common.{sym, ap, ◌∙◌}
use Rattle.row_table.specs.Tables.{row_of, without_row}
use Rattle.row_table.proofs.Keeping.{row_of-tabled, rows-removed}
use Rattle.row_table.proofs.table.Table.remove.Goals as goal

pub returns-clause-value : goal.returns-clause-value
returns-clause-value g c =
    c.swap_remove.ensures.value
    ∙ sym (row_of-tabled g.K.Keyed.number_of c.self.inside.rows c.self.invariant c.args.number)
    ∙ ap (λ t. row_of g.K.Keyed.number_of c.args.number t.rows) c.self.view_is

pub returns-clause-rows : goal.returns-clause-rows
returns-clause-rows g c =
    rows-removed g.K.Keyed.number_of c.self.inside.rows c.swap_remove.new.self c.args.number
    (record {
      kept = c.self.invariant;
      unique = c.swap_remove.ensures.unique;
      changes = c.swap_remove.ensures.updates.0;
      numbered = λ there is. absurd cc;
    })
    ∙ ap (λ t. without_row g.K.Keyed.number_of c.args.number t.rows) c.self.view_is
