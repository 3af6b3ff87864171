use Rattle.std.proofs.Common.{◌≡◌, ℕ, ◌-◌, min, false, length, sym, ap, ◌∙◌, arith}
use Rattle.row_table.specs.Tables.{without_row}
use Rattle.kom_types.specs.tables.Conferences.{number_of_conference}
use Rattle.conferences.specs.Secret.{with_if, secret_numbers}
use Rattle.conferences.proofs.Rows.{length-without_row}
use Rattle.conferences.proofs.Listing.{length-secret, secret-without_row}
use Rattle.conferences.proofs.table.Conferences.remove.Goals as goal

pub set-requires : goal.set-requires
set-requires c =
    let numbers : length c.self.inside.secret.numbers ≡ length (secret_numbers c.self.inside.rows.rows) =
    ap length c.self.invariant.numbers in
    omega (
      arith,
      length-without_row {R = ℕ} (λ other. other),
      length-secret c.self.inside.rows.rows,
      c.self.invariant.room,
    )

pub invariant_of-self : goal.invariant_of-self
invariant_of-self c =
    let rows = c.self.inside.rows.rows in
    rw c.remove.ensures.rows (record {
      numbers = c.set.ensures.numbers ∙ ap (with_if false c.args.number) c.self.invariant.numbers
          ∙ sym (secret-without_row c.args.number rows);
      room = omega (
        arith,
        length-without_row number_of_conference c.args.number rows,
        c.self.invariant.room,
        c.set.ensures.room,
      );
    })

pub returns-clause-spare : goal.returns-clause-spare
returns-clause-spare c =
    let rows = c.self.inside.rows.rows in
    let before : min c.self.inside.rows.spare (c.self.inside.secret.room - length rows) ≡ c.args.self.now.spare =
    ap (λ table. table.spare) c.self.view_is in
    let now : length c.remove.new.self.rows ≡ length (without_row number_of_conference c.args.number rows) =
    ap length c.remove.ensures.rows in
    omega (
      arith,
      length-without_row number_of_conference c.args.number rows,
      c.remove.ensures.spare,
      c.set.ensures.room,
    )
