use Rattle.std.proofs.Common.{arith}
use Rattle.kom_disk.proofs.Moments.{begins}
use Rattle.store_files.specs.Writing.{IsNoStore}
use Rattle.store_files.proofs.Reading.{no_shut}
use Rattle.store_files.proofs.snapshot_file.SnapshotFile.push_block.Goals as goal

pub returns-then-size-gt-MAX_SIZE-clause-any_moment : goal.returns-then-size-gt-MAX_SIZE-clause-any_moment
returns-then-size-gt-MAX_SIZE-clause-any_moment g c told =
    let disk = c.self.inside.disk in
    rw (← c.self.view_is) (begins g.D.Disk.moment g.D.Disk.images_at disk IsNoStore
    (λ image left. no_shut c.self.inside.generation 0 (g.D.Disk.moment disk) image
    (c.self.invariant.shut told image ((g.met.D.Disk.images_now disk image told).0 left))))

pub invariant_of-self : goal.invariant_of-self
invariant_of-self g c = record {
  within = omega (arith, c.in-Ok.ensures.size);
  room = omega (arith, c.if-size-gt-MAX_SIZE.false);
  shut = λ told. c.in-Ok.ensures.shut told c.self.inside.generation (c.self.invariant.shut told);
}

pub invariant_of-self-in-Err : goal.invariant_of-self-in-Err
invariant_of-self-in-Err g c = record {
  within = omega (arith, c.in-Err.ensures.no_shorter, c.self.invariant.within);
  room = c.self.invariant.room;
  shut = λ told. c.in-Err.ensures.shut told c.self.inside.generation (c.self.invariant.shut told);
}

pub returns-in-Ok-clause-any_moment : goal.returns-in-Ok-clause-any_moment
returns-in-Ok-clause-any_moment g c told =
    rw (← c.self.view_is)
    (c.in-Ok.ensures.any_moment told c.self.inside.generation (c.self.invariant.shut told))

pub returns-in-Err-clause-any_moment : goal.returns-in-Err-clause-any_moment
returns-in-Err-clause-any_moment g c told =
    rw (← c.self.view_is)
    (c.in-Err.ensures.any_moment told c.self.inside.generation (c.self.invariant.shut told))
