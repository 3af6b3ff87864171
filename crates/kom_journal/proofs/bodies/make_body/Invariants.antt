use Rattle.std.proofs.Common.{◌+◌, ◌-◌, vec_len}
use Rattle.kom_journal.proofs.Blocks.{Looks, MakesTo}
use Rattle.kom_journal.proofs.bodies.make_body.Given as goal

abbrev pub invariant-loop-at : goal.invariant-loop-at
invariant-loop-at g l = record {
  looks : Looks g.D.Disk.tells g.D.Disk.bytes g.D.Disk.size g.D.Disk.faults g.D.Disk.moment g.D.Disk.images
      g.D.Disk.images_at l.initial.disk l.disk;
  makes : MakesTo g.D.Disk.tells g.M.BodyMaker.makes (g.D.Disk.bytes l.initial.disk) l.from l.end l.at
      (vec_len l.buffer) l.initial.maker l.maker;
}

abbrev pub decreases-loop-at : goal.decreases-loop-at
decreases-loop-at g l = (l.end - l.at) + (l.end - vec_len l.buffer)
