use Rattle.std.proofs.Common.{ℕ, sym, subst, ◌∙◌}
use Rattle.kom_disk.specs.Moments.{LeavesOnly}
use Rattle.batch_log.specs.Gates.{IsStable}
use Rattle.store_files.specs.Writing.{StaysBeside, IsNoStoreOrNew, new_file}
use Rattle.store_snapshots.specs.Snapshots.{IsBesideOrNew, snapshot_bytes}
use Rattle.store_snapshots.proofs.Going.{stays_so, told_so, ends_so}
use Rattle.store_snapshots.proofs.writing.write_snapshot.Goals as goal

pub returns-in-Ok-finish-clause-new : goal.returns-in-Ok-finish-clause-new
returns-in-Ok-finish-clause-new g c told =
    let snapshot = snapshot_bytes c.args.rows.now.db in
    let end = c.in-Ok-finish.new.0 in
    subst (λ (n : ℕ). IsStable (new_file n snapshot) (g.D.Disk.bytes end) (g.D.Disk.images end))
    (c.in-Ok-tell_into.ensures.goes_on.generation ∙ c.in-Ok.ensures.generation)
    (c.in-Ok-finish.ensures.new told snapshot c.in-Ok-tell_into.ensures.told)

pub returns-in-Ok-finish-clause-any_moment : goal.returns-in-Ok-finish-clause-any_moment
returns-in-Ok-finish-clause-any_moment g c told which beside =
    let snapshot = snapshot_bytes c.args.rows.now.db in
    let full = c.in-Ok-tell_into.file.disk in
    let end = c.in-Ok-finish.new.0 in
    ends_so g.D.Disk.moment g.D.Disk.images_at which c.args.generation c.args.rows.now.db
    c.in-Ok-tell_into.ensures.coded c.args.disk c.in-Ok.file.disk full end
    (c.in-Ok.ensures.any_moment told which beside)
    (c.in-Ok-tell_into.ensures.goes_on.moments told)
    (subst
    (λ (n : ℕ). LeavesOnly g.D.Disk.moment g.D.Disk.images_at full end (IsNoStoreOrNew n snapshot))
    (c.in-Ok-tell_into.ensures.goes_on.generation ∙ c.in-Ok.ensures.generation)
    (c.in-Ok-finish.ensures.any_moment told snapshot c.in-Ok-tell_into.ensures.told))

pub returns-in-Err-finish-clause-any_moment : goal.returns-in-Err-finish-clause-any_moment
returns-in-Err-finish-clause-any_moment g c told which beside =
    let snapshot = snapshot_bytes c.args.rows.now.db in
    let full = c.in-Ok-tell_into.file.disk in
    let end = c.in-Err-finish.disk in
    ends_so g.D.Disk.moment g.D.Disk.images_at which c.args.generation c.args.rows.now.db
    c.in-Ok-tell_into.ensures.coded c.args.disk c.in-Ok.file.disk full end
    (c.in-Ok.ensures.any_moment told which beside)
    (c.in-Ok-tell_into.ensures.goes_on.moments told)
    (subst
    (λ (n : ℕ). LeavesOnly g.D.Disk.moment g.D.Disk.images_at full end (IsNoStoreOrNew n snapshot))
    (c.in-Ok-tell_into.ensures.goes_on.generation ∙ c.in-Ok.ensures.generation)
    (c.in-Err-finish.ensures.any_moment told snapshot c.in-Ok-tell_into.ensures.told))

pub returns-in-Err-tell_into-clause-any_moment : goal.returns-in-Err-tell_into-clause-any_moment
returns-in-Err-tell_into-clause-any_moment g c told which beside =
    let db = c.args.rows.now.db in
    let left = c.in-Err-tell_into.file.disk in
    subst
    (λ (d : g.row.D.Denot). LeavesOnly g.D.Disk.moment g.D.Disk.images_at c.args.disk d
    (IsBesideOrNew which c.args.generation db)) (sym c.into_disk.ensures)
    (told_so g.D.Disk.moment g.D.Disk.images_at which c.args.generation db c.args.disk c.in-Ok.file.disk left
    (c.in-Ok.ensures.any_moment told which beside) (c.in-Err-tell_into.ensures.goes_on.moments told))

pub returns-in-Err-tell_into-clause-given_up : goal.returns-in-Err-tell_into-clause-given_up
returns-in-Err-tell_into-clause-given_up g c told which beside other =
    subst
    (λ (d : g.row.D.Denot). LeavesOnly g.D.Disk.moment g.D.Disk.images_at c.args.disk d (StaysBeside which))
    (sym c.into_disk.ensures)
    (stays_so g.D.Disk.moment g.D.Disk.images_at which c.args.disk c.in-Ok.file.disk c.in-Err-tell_into.file.disk
    (c.in-Ok.ensures.any_moment told which beside) (c.in-Err-tell_into.ensures.goes_on.moments told))
