use Rattle.std.proofs.Common.{◌-◌}
use Rattle.batch_log.proofs.Walking.{Walks}
use Rattle.batch_log.proofs.walks.walk.Given as goal

abbrev pub invariant-gates : goal.invariant-gates
invariant-gates g l =
    Walks g.D.Disk.tells g.D.Disk.bytes g.D.Disk.size g.D.Disk.faults g.D.Disk.moment g.D.Disk.images
    g.D.Disk.images_at l.initial.disk l.disk l.place l.len l.at l.batches

abbrev pub decreases-gates : goal.decreases-gates
decreases-gates g l = l.len - l.at
