use Rattle.sweep_laws.proofs.Judged.{due-is-told}
use Rattle.sweep_laws.proofs.laws.due_is_told.Goals as goal

pub returns : goal.returns
returns c = due-is-told
