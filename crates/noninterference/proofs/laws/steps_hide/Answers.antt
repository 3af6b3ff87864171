use Rattle.noninterference.proofs.Along.{steps-hide}
use Rattle.noninterference.proofs.laws.steps_hide.Goals as goal

pub returns : goal.returns
returns c = steps-hide
