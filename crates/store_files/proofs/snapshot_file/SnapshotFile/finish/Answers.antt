use Rattle.store_files.proofs.snapshot_file.SnapshotFile.finish.Goals as goal

pub returns-in-Ok-clause-new : goal.returns-in-Ok-clause-new
returns-in-Ok-clause-new g c told snapshot =
    rw (← c.self.view_is) (λ has. c.in-Ok.ensures.new told c.self.inside.generation snapshot (has.is told)
    (c.self.invariant.shut told))

pub returns-in-Ok-clause-any_moment : goal.returns-in-Ok-clause-any_moment
returns-in-Ok-clause-any_moment g c told snapshot =
    rw (← c.self.view_is) (λ has. c.in-Ok.ensures.any_moment told c.self.inside.generation snapshot (has.is told)
    (c.self.invariant.shut told))

pub returns-in-Err-clause-any_moment : goal.returns-in-Err-clause-any_moment
returns-in-Err-clause-any_moment g c told snapshot =
    rw (← c.self.view_is) (λ has. c.in-Err.ensures.any_moment told c.self.inside.generation snapshot (has.is told)
    (c.self.invariant.shut told))
