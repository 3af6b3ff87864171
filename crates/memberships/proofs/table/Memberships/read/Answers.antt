use Rattle.std.proofs.Common.{is_some, option_copied, sym, ap, ◌∙◌}
use Rattle.memberships.proofs.Finding.{is_there}
use Rattle.memberships.proofs.ReadRows.{found_read, nothing_read}
use Rattle.memberships.proofs.table.Memberships.read.Goals as goal

pub returns-in_err-get-clause-there : goal.returns-in_err-get-clause-there
returns-in_err-get-clause-there c =
    rw (← c.self.view_is)
    (ap is_some c.from_residual.ensures ∙ ap is_some (sym (ap option_copied c.in_err-get.was) ∙ c.get.ensures.value)
    ∙ sym (is_there _ _ _ _ c.self.invariant.0 c.args.person c.args.conference))

pub returns-clause-there : goal.returns-clause-there
returns-clause-there c =
    rw (← c.self.view_is)
    (ap is_some (sym (ap option_copied c.in_ok-get.was) ∙ c.get.ensures.value)
    ∙ sym (is_there _ _ _ _ c.self.invariant.0 c.args.person c.args.conference))

pub returns-clause-ranges : goal.returns-clause-ranges
returns-clause-ranges c =
    rw (← c.self.view_is)
    (sym (found_read _ _ _ _ c.self.invariant.0 c.args.person c.args.conference c.in_ok-get.field-0.now
    (sym c.get.ensures.value ∙ ap option_copied c.in_ok-get.was)))

pub returns-in_err-get-clause-none : goal.returns-in_err-get-clause-none
returns-in_err-get-clause-none c none =
    rw (← c.self.view_is)
    (nothing_read _ _ _ _ c.self.invariant.0 c.args.person c.args.conference
    (sym c.get.ensures.value ∙ ap option_copied c.in_err-get.was))
