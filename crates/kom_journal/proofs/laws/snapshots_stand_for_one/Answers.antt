use Rattle.kom_journal.proofs.Restored.{snapshot_of_one}
use Rattle.kom_journal.proofs.laws.snapshots_stand_for_one.Goals as goal

pub returns : goal.returns
returns c = snapshot_of_one
