use Rattle.noninterference.proofs.steps.Acts.{acts-erased}
use Rattle.noninterference.proofs.unwinding.acts_stand_erased.Goals as goal

pub returns : goal.returns
returns c = acts-erased
