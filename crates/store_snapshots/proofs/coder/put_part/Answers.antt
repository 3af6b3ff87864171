use Rattle.store_snapshots.proofs.Taking.{added_ok}
use Rattle.kom_types.specs.Parts.{part_of}
use Rattle.store_snapshots.proofs.coder.put_part.Goals as goal

pub returns-clause-put : goal.returns-clause-put
returns-clause-put g c parts was =
    added_ok g.D.Disk.tells g.D.Disk.bytes g.D.Disk.size c.append_to.result parts (part_of c.args.part.now)
    c.make_room.new.file c.make_room.new.block.items c.append_to.new.block.items c.append_to.ensures.items
    c.append_to.ensures.range
    (c.in_ok-make_room.ensures.put parts was)
