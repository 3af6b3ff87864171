use Rattle.kom_model.proofs.whole.Effects.{made-whole, effects-whole, empty-whole}
use Rattle.kom_model.proofs.laws.effects_leave_whole.Goals as goal

pub returns : goal.returns
returns c = record { empty = empty-whole; one = made-whole; all = effects-whole }
