use Rattle.store_files.proofs.Choosing.{stands}
use Rattle.store_files.proofs.Keeping.{batches_chosen, snapshots_keep, next_stands}
use Rattle.store_files.proofs.laws.pairs_stand.Goals as goal

pub returns-clause-stands : goal.returns-clause-stands
returns-clause-stands c = stands

pub returns-clause-batches : goal.returns-clause-batches
returns-clause-batches c = batches_chosen

pub returns-clause-snapshots : goal.returns-clause-snapshots
returns-clause-snapshots c = snapshots_keep

pub returns-clause-next : goal.returns-clause-next
returns-clause-next c = next_stands
