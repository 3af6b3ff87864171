use Rattle.sweep_laws.proofs.Reached.{reached-numbered}
use Rattle.sweep_laws.proofs.Sweeping.{swept-leaves}
use Rattle.sweep_laws.proofs.Talked.{session-tells, session-leaves}
use Rattle.sweep_laws.proofs.laws.whole_sweeps_leave_what_is_not_due.Goals as goal

pub returns-clause-swept : goal.returns-clause-swept
returns-clause-swept c = swept-leaves

pub returns-clause-tells : goal.returns-clause-tells
returns-clause-tells c = session-tells

pub returns-clause-session : goal.returns-clause-session
returns-clause-session c = session-leaves

pub returns-clause-reached : goal.returns-clause-reached
returns-clause-reached c = reached-numbered
