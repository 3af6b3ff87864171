use Rattle.std.proofs.Common.{rules}
use Rattle.kom_session.proofs.Starting.{kept_new}
use Rattle.kom_session.proofs.machine.Machine.new.Goals as goal

pub returns-clause-kept : goal.returns-clause-kept
returns-clause-kept c = λ now untouched.
    kept_new now untouched c.new.result c.new.ensures _ (search rules)
