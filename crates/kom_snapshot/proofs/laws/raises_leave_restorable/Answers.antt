use Rattle.kom_snapshot.proofs.Raises.{raised-kept, read-kept}
use Rattle.kom_snapshot.proofs.laws.raises_leave_restorable.Goals as goal

pub returns : goal.returns
returns c = record { one = raised-kept; read = read-kept }
