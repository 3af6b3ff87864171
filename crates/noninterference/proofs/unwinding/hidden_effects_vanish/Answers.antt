use Rattle.noninterference.proofs.respect.Vanishing.{hidden-vanish}
use Rattle.noninterference.proofs.unwinding.hidden_effects_vanish.Goals as goal

pub returns : goal.returns
returns c = hidden-vanish
