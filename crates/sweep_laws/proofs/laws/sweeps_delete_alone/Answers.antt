use Rattle.sweep_laws.proofs.Along.{history-leaves}
use Rattle.sweep_laws.proofs.Deleting.{deletion-leaves}
use Rattle.sweep_laws.proofs.Others.{other-leaves}
use Rattle.sweep_laws.proofs.laws.sweeps_delete_alone.Goals as goal

pub returns-clause-deletion : goal.returns-clause-deletion
returns-clause-deletion c = deletion-leaves

pub returns-clause-other : goal.returns-clause-other
returns-clause-other c = other-leaves

pub returns-clause-history : goal.returns-clause-history
returns-clause-history c = history-leaves
