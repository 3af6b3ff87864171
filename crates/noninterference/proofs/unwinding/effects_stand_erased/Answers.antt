use Rattle.noninterference.proofs.steps.Steps.{effects-erased}
use Rattle.noninterference.proofs.unwinding.effects_stand_erased.Goals as goal

pub returns : goal.returns
returns c = effects-erased
