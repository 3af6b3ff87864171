use Rattle.std.proofs.Common.{◌≡◌, ◌+◌, ◌-◌, ◌≤◌, min, length, is_some, not, ap, ◌∙◌, arith}
use Rattle.std.specs.Int.{from_bool}
use Rattle.row_table.specs.Tables.{row_of, with_row}
use Rattle.kom_types.specs.tables.Conferences.{number_of_conference}
use Rattle.conferences.specs.Secret.{secret_numbers}
use Rattle.conferences.proofs.Rows.{is_some-read, length-put, one_at_most}
use Rattle.conferences.proofs.Listing.{put_fits, IsListed-put}
use Rattle.conferences.proofs.table.Conferences.put.Goals as goal
use Rattle.conferences.proofs.table.Conferences.put.Goals.{After-put}

-- the row is of a new conference, or one of its number is there
there : (c : After-put) →
    is_some (row_of number_of_conference c.args.row.number c.self.inside.rows.rows) ≡ not c.is_none.result
there c = is_some-read c.get.result _ (not c.is_none.result) c.get.ensures.row c.is_none.ensures

enough : (c : After-put) →
    length c.self.inside.rows.rows + from_bool c.is_none.result ≤ c.reserve.new.self.room
enough c = omega (arith, c.in_ok-reserve.ensures.ok, c.len.ensures.len, c.from-additional.ensures)

pub set-requires : goal.set-requires
set-requires c =
    let before = (goal.at.set-requires c).After-put in
    let numbers : c.reserve.new.self.numbers ≡ secret_numbers c.self.inside.rows.rows =
    c.reserve.ensures.numbers ∙ c.self.invariant.numbers in
    rw (c.is_secret_conference-is_secret.ensures, numbers)
    (put_fits c.args.row c.self.inside.rows.rows c.is_none.result c.reserve.new.self.room c.len.ensures.rising
    (there before) (enough before))

pub invariant_of-self-2 : goal.invariant_of-self-2
invariant_of-self-2 c =
    let before = (goal.at.invariant_of-self-2 c).After-put in
    let numbers : c.reserve.new.self.numbers ≡ secret_numbers c.self.inside.rows.rows =
    c.reserve.ensures.numbers ∙ c.self.invariant.numbers in
    IsListed-put c.args.row c.self.inside.rows.rows c.is_none.result c.reserve.new.self.room c.len.ensures.rising
    (there before) (enough before) c.put.new.self.rows c.set.new.self c.in_ok-put.ensures.ok
    (rw (c.is_secret_conference-is_secret.ensures, numbers) at c.set.ensures.numbers) c.set.ensures.room

pub returns-clause-spare : goal.returns-clause-spare
returns-clause-spare c =
    let rows = c.self.inside.rows.rows in
    let before : min c.self.inside.rows.spare (c.self.inside.secret.room - length rows) ≡ c.args.self.now.spare =
    ap (λ table. table.spare) c.self.view_is in
    let longer : length (with_row number_of_conference c.args.row rows) ≡ length rows + from_bool c.is_none.result =
    length-put number_of_conference c.args.row rows c.is_none.result c.len.ensures.rising
    (there (goal.at.returns-clause-spare c).After-put) in
    let now : length c.put.new.self.rows ≡ length (with_row number_of_conference c.args.row rows) =
    ap length c.in_ok-put.ensures.ok in
    omega (
      arith,
      one_at_most c.is_none.result,
      c.put.ensures.spare,
      c.set.ensures.room,
      c.reserve.ensures.room,
    )
