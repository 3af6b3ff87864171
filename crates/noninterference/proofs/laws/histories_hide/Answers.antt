use Rattle.noninterference.proofs.Along.{all-hide}
use Rattle.noninterference.proofs.laws.histories_hide.Goals as goal

pub returns : goal.returns
returns c = all-hide
