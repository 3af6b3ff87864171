use Rattle.sweep_laws.proofs.Strong.{tells-all}
use Rattle.sweep_laws.proofs.laws.strong_sessions_are_told_all.Goals as goal

pub returns : goal.returns
returns c = tells-all
