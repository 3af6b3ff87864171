use Rattle.std.proofs.Common.{drop, sym, ◌∙◌}
use Rattle.kom_journal.proofs.Reading.{wrong_unfit, found_unfit, faulty_unfit, faulty_some}
use Rattle.kom_journal.proofs.making.make_effect.Goals as goal

pub returns-then-has_faulty_range-clause-unfit : goal.returns-then-has_faulty_range-clause-unfit
returns-then-has_faulty_range-clause-unfit c same more =
    faulty_unfit c.args.rows.now.db c.args.bytes.now more
    (c.has_faulty_range.ensures.faulty c.if-has_faulty_range.true)

pub returns-then-has_faulty_range-clause-some : goal.returns-then-has_faulty_range-clause-some
returns-then-has_faulty_range-clause-some c same =
    faulty_some c.args.bytes.now (sym c.has_faulty_range.ensures.exact ∙ c.if-has_faulty_range.true)

pub returns-in-Err-Wrong-clause-unfit : goal.returns-in-Err-Wrong-clause-unfit
returns-in-Err-Wrong-clause-unfit c same more =
    wrong_unfit c.args.rows.now.db c.args.bytes.now more (rw c.in-Err-Wrong.field-0-is at c.in-Err-Wrong.ensures).gives

pub returns-then-not-fits-clause-unfit : goal.returns-then-not-fits-clause-unfit
returns-then-not-fits-clause-unfit c same more =
    let found = c.in-Ok-Some.found in
    let said = (rw c.in-Ok-Some.field-0-is at c.in-Ok-Some.ensures).spelled in
    found_unfit c.args.rows.now.db found.0 c.args.bytes.now (drop found.1 c.args.bytes.now) more said.0 said.1
    (sym c.fits.ensures ∙ c.if-not-fits.true)
