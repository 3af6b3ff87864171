use Rattle.store_snapshots.proofs.Going.{comes_in_turn}
use Rattle.store_snapshots.proofs.writing.tell_whole.Goals as goal

pub returns-clause-comes : goal.returns-clause-comes
returns-clause-comes g c =
    comes_in_turn g.D.Disk.tells g.D.Disk.moment g.D.Disk.images_at g.D.Disk.faults c.args.coder.now.file
    c.tell_parts.new.coder.file c.put_block.new.file tt c.put_block.result c.in_ok-tell_parts.ensures.comes
    c.put_block.ensures.comes
