use Rattle.kom_laws.proofs.Calls.{decided-fit}
use Rattle.kom_laws.proofs.Kept.{sound-fit, kept-decided}
use Rattle.kom_laws.proofs.laws.decided_effects_fit.Goals as goal

pub returns-clause-decided : goal.returns-clause-decided
returns-clause-decided c = decided-fit

pub returns-clause-sound : goal.returns-clause-sound
returns-clause-sound c = sound-fit

pub returns-clause-kept : goal.returns-clause-kept
returns-clause-kept c = kept-decided
