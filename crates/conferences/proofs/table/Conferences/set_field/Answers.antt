use Rattle.std.proofs.Common.{◌≡◌, true, false, Some, sym, ◌∙◌}
use Rattle.row_table.specs.Tables.{row_of}
use Rattle.row_table.proofs.Rows.{changed_row-absent}
use Rattle.kom_types.specs.declared.conferences.ConferenceRow.{ConferenceRow}
use Rattle.kom_types.specs.tables.Conferences.{number_of_conference, with_field}
use Rattle.conferences.specs.Numbers.{number-with_field}
use Rattle.conferences.proofs.Rows.{is_some-read, none_from, some_from}
use Rattle.conferences.proofs.Listing.{changed_fits, IsListed-set, IsListed-changed_row}
use Rattle.conferences.proofs.Listing.{kind-with_field, kind-with_kind}
use Rattle.conferences.proofs.table.Conferences.set_field.Goals as goal
use Rattle.conferences.proofs.table.Conferences.set_field.Goals.{After-change}

pub returns-then-is_none-clause-rows : goal.returns-then-is_none-clause-rows
returns-then-is_none-clause-rows c =
    let rows = c.self.inside.rows.rows in
    let absent = none_from _ (is_some-read c.get.result (row_of number_of_conference c.args.number rows) false
    c.get.ensures.row c.if-is_none.ensures) in
    rw (← c.self.view_is)
    (sym (changed_row-absent number_of_conference c.args.number (with_field c.args.field) rows absent))

-- the row that is changed
there : (c : After-change) →
    (row : ConferenceRow) × (row_of number_of_conference c.args.number c.self.inside.rows.rows ≡ Some row)
there c = some_from _ (is_some-read c.get.result _ true c.get.ensures.row c.if-is_none.ensures)

pub set-requires : goal.set-requires
set-requires c =
    let row = there (goal.at.set-requires c).After-change in
    rw c.self.invariant.numbers
    (changed_fits (with_field c.args.field) (number-with_field c.args.field) c.is_secret_conference.result c.args.number
    c.self.inside.rows.rows row.0 c.get.ensures.rising row.1
    (kind-with_kind c.args.field c.in-Kind.kind c.in-Kind.is row.0 ∙ sym c.is_secret_conference.ensures)
    c.self.inside.secret.room c.self.invariant.room)

pub invariant_of-self : goal.invariant_of-self
invariant_of-self c =
    let row = there (goal.at.invariant_of-self c).After-change in
    IsListed-set (with_field c.args.field) (number-with_field c.args.field) c.is_secret_conference.result c.args.number
    c.self.inside.rows.rows row.0 c.get.ensures.rising row.1
    (kind-with_kind c.args.field c.in-Kind.kind c.in-Kind.is row.0 ∙ sym c.is_secret_conference.ensures)
    c.self.inside.secret.room c.self.invariant.room c.change.new.self.rows c.set.new.self c.change.ensures.rows
    (rw c.self.invariant.numbers at c.set.ensures.numbers) c.set.ensures.room

pub invariant_of-self-in_default : goal.invariant_of-self-in_default
invariant_of-self-in_default c =
    IsListed-changed_row (with_field c.args.field) (number-with_field c.args.field)
    (kind-with_field c.args.field c.in_default.not-Kind) c.args.number c.self.inside.rows.rows c.change.new.self.rows
    c.self.inside.secret c.self.invariant c.change.ensures.rows
