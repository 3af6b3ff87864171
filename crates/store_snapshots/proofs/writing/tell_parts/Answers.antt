use Rattle.std.proofs.Common.{[]}
use Rattle.store_snapshots.proofs.Going.{becomes_self, comes_ok}
use Rattle.store_snapshots.proofs.Taking.{no_parts}
use Rattle.store_snapshots.proofs.writing.tell_parts.Goals as goal

pub returns-in-Ok-clause-told : goal.returns-in-Ok-clause-told
returns-in-Ok-clause-told g c =
    let first = c.args.coder.now in
    (c.in-Ok.ensures.told.takes [] (
      no_parts g.D.Disk.tells g.D.Disk.bytes g.D.Disk.size first.file first.block.items c.requires.empty
          c.requires.waits,
      c.requires.unrefused,
    )).0

pub returns-in-Ok-clause-comes : goal.returns-in-Ok-clause-comes
returns-in-Ok-clause-comes g c =
    let first = c.args.coder.now in
    let took = c.in-Ok.ensures.told.takes [] (
      no_parts g.D.Disk.tells g.D.Disk.bytes g.D.Disk.size first.file first.block.items c.requires.empty
          c.requires.waits,
      c.requires.unrefused,
    ) in
    comes_ok g.D.Disk.tells g.D.Disk.moment g.D.Disk.images_at g.D.Disk.faults first.file c.tell.new.sink.file
    first.refused c.tell.new.sink.refused tt took.1
    (c.in-Ok.ensures.keeps first
    (becomes_self g.D.Disk.tells g.D.Disk.moment g.D.Disk.images_at g.D.Disk.faults first.file first.refused
    c.requires.unrefused))
