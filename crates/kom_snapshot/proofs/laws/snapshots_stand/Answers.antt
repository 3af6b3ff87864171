use Rattle.kom_snapshot.proofs.replay.Again.{snapshot-stands, made-stands}
use Rattle.kom_snapshot.proofs.laws.snapshots_stand.Goals as goal

pub returns-clause-stands : goal.returns-clause-stands
returns-clause-stands c = snapshot-stands

pub returns-clause-made : goal.returns-clause-made
returns-clause-made c = made-stands
