use Rattle.effect_codec.proofs.Effects.{effect_again, begins_no_other}
use Rattle.effect_codec.proofs.laws.effects_are_read_again.Goals as goal

pub returns-clause-again : goal.returns-clause-again
returns-clause-again c = effect_again

pub returns-clause-no_other : goal.returns-clause-no_other
returns-clause-no_other c = begins_no_other
