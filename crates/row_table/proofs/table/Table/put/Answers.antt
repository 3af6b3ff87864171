use Rattle.std.proofs.Common.{nat_eq, sym, ap, ◌∙◌}
use Rattle.std.proofs.lemmas.Result.{err_from_is_err_and}
use Rattle.indexmap.specs.IndexMap.{get}
use Rattle.row_table.specs.Tables.{row_of, with_row}
use Rattle.row_table.proofs.Keeping.{row_of-tabled, IsUpdated-put, rows-put}
use Rattle.row_table.proofs.table.Table.put.Goals as goal

pub returns-in_err-insert-clause-absent : goal.returns-in_err-insert-clause-absent
returns-in_err-insert-clause-absent g c =
    let failed = err_from_is_err_and c.from_residual.result c.from_residual.ensures.1 in
    let old = c.self.inside.rows in
    rw failed.1
    (sym (ap (λ t. row_of g.K.Keyed.number_of (g.K.Keyed.number_of c.args.row) t.rows) c.self.view_is)
    ∙ row_of-tabled g.K.Keyed.number_of old c.self.invariant (g.K.Keyed.number_of c.args.row)
    ∙ ap (λ number. get nat_eq old number) (sym c.number_of-number.ensures) ∙ c.in_err-insert.ensures.absent)

pub returns-clause-ok : goal.returns-clause-ok
returns-clause-ok g c =
    let old = c.self.inside.rows in let new = c.insert.new.self in let number = c.number_of-number.result in
    let at = sym c.number_of-number.ensures in
    rows-put g.K.Keyed.number_of old new number c.args.row at
    (IsUpdated-put g.K.Keyed.number_of old new number c.args.row c.self.invariant c.insert.ensures.unique
    c.in_ok-insert.ensures.updates.0 at)
    ∙ ap (λ t. with_row g.K.Keyed.number_of c.args.row t.rows) c.self.view_is
