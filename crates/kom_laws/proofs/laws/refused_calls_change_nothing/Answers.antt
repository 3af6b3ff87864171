use Rattle.kom_laws.proofs.Refusing.{refused-changes, refused-keeps}
use Rattle.kom_laws.proofs.laws.refused_calls_change_nothing.Goals as goal

pub returns-clause-decided : goal.returns-clause-decided
returns-clause-decided c = refused-changes

pub returns-clause-rows : goal.returns-clause-rows
returns-clause-rows c = refused-keeps
