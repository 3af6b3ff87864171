use Rattle.std.proofs.Common.{◌++◌, List, ℕ, inr, ap, subst, Err}
use Rattle.store_files.specs.Writing.{HasSnapshot}
use Rattle.store_snapshots.proofs.Going.{comes_full}
use Rattle.store_snapshots.proofs.Taking.{written_block}
use Rattle.store_snapshots.proofs.coder.put_block.Goals as goal

pub returns-in-Ok-clause-put : goal.returns-in-Ok-clause-put
returns-in-Ok-clause-put g c parts was =
    let new = c.push_block.new.self in
    written_block g.D.Disk.tells g.D.Disk.bytes g.D.Disk.size parts c.args.file.now new c.args.block.now.items
    c.clear.new.self.items c.clear.ensures.items was
    (subst (λ (l : List ℕ). HasSnapshot g.D.Disk.tells g.D.Disk.bytes g.D.Disk.size (was.written ++ l) new)
    c.deref.ensures.value (c.in-Ok.ensures.pushed was.written was.has))

pub returns-in-Err-Full-clause-comes : goal.returns-in-Err-Full-clause-comes
returns-in-Err-Full-clause-comes g c =
    comes_full g.D.Disk.tells g.D.Disk.moment g.D.Disk.images_at g.D.Disk.faults c.args.file.now c.push_block.new.self
    c.in-Err-Full.len
    (record {
      generation = c.in-Err-Full.ensures.generation;
      moments = λ told. inr (c.in-Err-Full.ensures.any_moment told);
    })
    (ap (λ file. g.D.Disk.faults file.disk)
    (c.in-Err-Full.ensures.left c.in-Err-Full.len (ap Err c.in-Err-Full.field-0-is)))
    ((c.in-Err-Full.ensures.full c.in-Err-Full.len).0 (ap Err c.in-Err-Full.field-0-is)).0
