use Rattle.kom_model.proofs.whole.Raises.{raised-whole}
use Rattle.kom_model.proofs.laws.raises_leave_whole.Goals as goal

pub returns : goal.returns
returns c = raised-whole
