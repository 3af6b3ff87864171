use Rattle.std.proofs.Common.{is_some, sym, ap, ◌∙◌}
use Rattle.row_table.specs.Tables.{changed_row}
use Rattle.row_table.specs.Keeping.{table_of}
use Rattle.row_table.proofs.Rows.{changed_row-absent}
use Rattle.row_table.proofs.Keeping.{row_of-tabled, IsUpdated-put, rows-changed}
use Rattle.row_table.proofs.table.Table.change.Goals as goal
use Rattle.row_table.proofs.table.Table.change.Goals.{in-Some, in_default}

pub returns-clause-rows : goal.returns-clause-rows
returns-clause-rows g c =
    let number_of = g.K.Keyed.number_of in let old = c.self.inside.rows in let number = c.args.number in
    let change = g.C.Change.changed c.args.change in
    let keeps = g.met.C.Change.keeps_number c.args.change in
    elim c.match-get_mut.branch [
      | in-Some w ↦
          let row = w.in-Some.row.now in let there = sym w.in-Some.ensures.value in
          let new = c.get_mut.follows.lender w.change.new.row in
          let written = c.get_mut.follows.holds w.change.new.row in
          ap (λ i. (table_of number_of i.rows).rows) w.self-inside-is
          ∙ rows-changed number_of old new number change keeps row there
          (rw (← w.change.ensures) (IsUpdated-put number_of old new number w.change.new.row c.self.invariant written.4
          (written.3 (ap is_some there)).0
          (ap number_of w.change.ensures ∙ keeps row ∙ c.self.invariant.numbered number row there)))
          ∙ ap (λ t. changed_row number_of number change t.rows) c.self.view_is
      | in_default w ↦
          let absent = row_of-tabled number_of old c.self.invariant number ∙ sym w.in_default.ensures.value in
          ap (λ i. (table_of number_of i.rows).rows) w.self-inside-is
          ∙ ap (λ m. (table_of number_of m).rows) c.get_mut.follows.holds-at-none
          ∙ sym (changed_row-absent number_of number change (table_of number_of old).rows absent)
          ∙ ap (λ t. changed_row number_of number change t.rows) c.self.view_is
    ]
