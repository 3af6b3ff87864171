use Rattle.noninterference.proofs.Own.{own-steps-hide}
use Rattle.noninterference.proofs.laws.own_steps_hide.Goals as goal

pub returns : goal.returns
returns c = own-steps-hide
