use Rattle.std.proofs.Common.{Option, sym, subst}
use Rattle.store_snapshots.specs.Coders.{FileBecomes}
use Rattle.store_snapshots.specs.declared.errors.Unwritten.{Unwritten}
use Rattle.store_snapshots.proofs.Going.{becomes_ok, becomes_err}
use Rattle.store_snapshots.proofs.coder.CoderPartSink.put.Goals as goal

pub returns-in-Ok-clause-keeps : goal.returns-in-Ok-clause-keeps
returns-in-Ok-clause-keeps g c first becomes =
    let old = c.args.self.now.file in
    let new = c.put_part.new.file in
    subst
    (λ (r : Option Unwritten). FileBecomes g.D.Disk.tells g.D.Disk.moment g.D.Disk.images_at g.D.Disk.faults first.file
    new first.refused r) (sym c.in-None.is)
    (becomes_ok g.D.Disk.tells g.D.Disk.moment g.D.Disk.images_at g.D.Disk.faults first.file old new first.refused _
    (subst
    (λ (r : Option Unwritten). FileBecomes g.D.Disk.tells g.D.Disk.moment g.D.Disk.images_at g.D.Disk.faults first.file
    old first.refused r) c.in-None.is becomes) c.in-Ok.ensures.comes)

pub returns-in-Err-clause-keeps : goal.returns-in-Err-clause-keeps
returns-in-Err-clause-keeps g c first becomes =
    let old = c.args.self.now.file in
    becomes_err g.D.Disk.tells g.D.Disk.moment g.D.Disk.images_at g.D.Disk.faults first.file old c.put_part.new.file
    first.refused c.in-Err.why
    (subst
    (λ (r : Option Unwritten). FileBecomes g.D.Disk.tells g.D.Disk.moment g.D.Disk.images_at g.D.Disk.faults first.file
    old first.refused r) c.in-None.is becomes) c.in-Err.ensures.comes
