use Rattle.std.proofs.Common.{◌<◌, ◌+◌, ◌^◌, ℕ, List, length, ap, sym, subst, refl, ◌∙◌}
use Rattle.kom_disk.specs.Moments.{LeavesOnly}
use Rattle.kom_model.specs.Effects.{apply_all}
use Rattle.batch_log.specs.Batches.{batches}
use Rattle.batch_log.specs.Log.{flush_of}
use Rattle.kom_journal.specs.Images.{images_at, moment, IsForEither}
use Rattle.kom_journal.specs.Pending.{effects_in}
use Rattle.kom_journal.proofs.Images.{stays_for}
use Rattle.kom_journal.proofs.Spelled.{effects_of_none}
use Rattle.kom_journal.proofs.Views.{short_of, full_is, flushed_whole, flush_moments, flush_kept, flush_rows}
use Rattle.kom_journal.proofs.journal.Journal.flush.Goals as goal

pub invariant_of-self : goal.invariant_of-self
invariant_of-self g c =
    let log = c.self.inside.log in
    let short : length log.body < 2 ^ 64 =
    short_of _ log.place log.body c.in-Ok.ensures.full (λ n same. cc) in
    flushed_whole g.D.Disk.moment g.D.Disk.images_at g.D.Disk.bytes g.D.Disk.images g.D.Disk.tells
    c.self.inside.refused log c.flush.new.self c.self.invariant short c.in-Ok.ensures.emptied c.in-Ok.ensures.place
    c.in-Ok.ensures.appended c.in-Ok.ensures.at_rest

pub returns-in-Ok-clause-full : goal.returns-in-Ok-clause-full
returns-in-Ok-clause-full g c =
    rw (← c.self.view_is)
    (full_is _ c.self.inside.refused c.self.inside.log.place c.self.inside.log.body c.self.invariant.spelled
    c.if-self.false c.in-Ok.ensures.full)

pub returns-in-Ok-clause-place : goal.returns-in-Ok-clause-place
returns-in-Ok-clause-place g c =
    let log = c.self.inside.log in
    rw (← c.self.view_is)
    (c.in-Ok.ensures.place
    ∙ ap (λ (b : List ℕ). log.place + length (batches (flush_of b))) c.self.invariant.spelled.whole)

pub returns-in-Ok-clause-rows : goal.returns-in-Ok-clause-rows
returns-in-Ok-clause-rows g c =
    let log = c.self.inside.log in
    let short : length log.body < 2 ^ 64 =
    short_of _ log.place log.body c.in-Ok.ensures.full (λ n same. cc) in
    rw (← c.self.view_is) (λ told db base fit.
    flush_rows g.D.Disk.moment g.D.Disk.images_at g.D.Disk.bytes g.D.Disk.images g.D.Disk.tells told
    c.self.inside.refused c.if-self.false log c.flush.new.self c.self.invariant short
    (g.met.D.Disk.reads_as_image log.disk told) db base fit (c.in-Ok.ensures.at_rest told).stable
    (c.in-Ok.ensures.appended told))

pub returns-in-Ok-clause-emptied : goal.returns-in-Ok-clause-emptied
returns-in-Ok-clause-emptied g c = ap effects_in c.in-Ok.ensures.emptied ∙ effects_of_none

pub returns-in-Ok-clause-any_moment : goal.returns-in-Ok-clause-any_moment
returns-in-Ok-clause-any_moment g c =
    let log = c.self.inside.log in
    let short : length log.body < 2 ^ 64 =
    short_of _ log.place log.body c.in-Ok.ensures.full (λ n same. cc) in
    rw (← c.self.view_is) (λ told db base fit.
    flush_moments g.D.Disk.moment g.D.Disk.images_at g.D.Disk.bytes g.D.Disk.images g.D.Disk.tells told
    c.self.inside.refused c.if-self.false log c.flush.new.self c.self.invariant short
    (g.met.D.Disk.reads_as_image log.disk told) db base fit (c.flush.ensures.any_moment told))

pub returns-in-Ok-clause-kept : goal.returns-in-Ok-clause-kept
returns-in-Ok-clause-kept g c =
    let log = c.self.inside.log in
    let short : length log.body < 2 ^ 64 =
    short_of _ log.place log.body c.in-Ok.ensures.full (λ n same. cc) in
    rw (← c.self.view_is) (λ told db base fit kept.
    flush_kept g.D.Disk.moment g.D.Disk.images_at g.D.Disk.bytes g.D.Disk.images g.D.Disk.tells told
    c.self.inside.refused c.if-self.false log c.flush.new.self c.self.invariant short
    (g.met.D.Disk.reads_as_image log.disk told) db base fit (c.flush.ensures.any_moment told)
    (λ image left. (g.met.D.Disk.images_now c.flush.new.self.disk image told).1 left))

pub returns-in-Err-Fault-clause-full : goal.returns-in-Err-Fault-clause-full
returns-in-Err-Fault-clause-full g c =
    rw (← c.self.view_is)
    (full_is _ c.self.inside.refused c.self.inside.log.place c.self.inside.log.body c.self.invariant.spelled
    c.if-self.false (rw c.in-Err-Fault.field-0-is at c.in-Err-Fault.ensures).full)

pub returns-in-Err-Fault-clause-any_moment : goal.returns-in-Err-Fault-clause-any_moment
returns-in-Err-Fault-clause-any_moment g c =
    let log = c.self.inside.log in
    let said = rw c.in-Err-Fault.field-0-is at c.in-Err-Fault.ensures in
    let short : length log.body < 2 ^ 64 = short_of _ log.place log.body said.full (λ n same. cc) in
    rw (← c.self.view_is) (λ told db base fit.
    flush_moments g.D.Disk.moment g.D.Disk.images_at g.D.Disk.bytes g.D.Disk.images g.D.Disk.tells told
    c.self.inside.refused c.if-self.false log c.flush.new.self c.self.invariant short
    (g.met.D.Disk.reads_as_image log.disk told) db base fit (c.flush.ensures.any_moment told))

pub returns-in-Err-Fault-clause-kept : goal.returns-in-Err-Fault-clause-kept
returns-in-Err-Fault-clause-kept g c =
    let log = c.self.inside.log in
    let said = rw c.in-Err-Fault.field-0-is at c.in-Err-Fault.ensures in
    let short : length log.body < 2 ^ 64 = short_of _ log.place log.body said.full (λ n same. cc) in
    rw (← c.self.view_is) (λ told db base fit kept.
    flush_kept g.D.Disk.moment g.D.Disk.images_at g.D.Disk.bytes g.D.Disk.images g.D.Disk.tells told
    c.self.inside.refused c.if-self.false log c.flush.new.self c.self.invariant short
    (g.met.D.Disk.reads_as_image log.disk told) db base fit (c.flush.ensures.any_moment told)
    (λ image left. (g.met.D.Disk.images_now c.flush.new.self.disk image told).1 left))

pub returns-in-Err-Full-clause-full : goal.returns-in-Err-Full-clause-full
returns-in-Err-Full-clause-full g c =
    rw (← c.self.view_is)
    (full_is _ c.self.inside.refused c.self.inside.log.place c.self.inside.log.body c.self.invariant.spelled
    c.if-self.false (rw c.in-Err-Full.field-0-is at c.in-Err-Full.ensures).full)

pub returns-then-self-clause-any_moment : goal.returns-then-self-clause-any_moment
returns-then-self-clause-any_moment g c =
    rw (← c.self.view_is) (λ told db base fit.
    stays_for g.D.Disk.moment g.D.Disk.images_at g.D.Disk.images c.self.inside.log.disk
    (λ image. g.met.D.Disk.images_now c.self.inside.log.disk image told) db
    (apply_all (effects_in c.self.inside.log.body) db) base)

pub returns-in-Err-Full-clause-any_moment : goal.returns-in-Err-Full-clause-any_moment
returns-in-Err-Full-clause-any_moment g c =
    let log = c.self.inside.log in
    let said = rw c.in-Err-Full.field-0-is at c.in-Err-Full.ensures in
    rw (← c.self.view_is) (λ told db base fit.
    subst (λ l. LeavesOnly (moment g.D.Disk.moment) (images_at g.D.Disk.images_at) log.disk l.disk
    (IsForEither db (apply_all (effects_in log.body) db))) (sym (said.refused c.in-Err-Full.len refl))
    (stays_for g.D.Disk.moment g.D.Disk.images_at g.D.Disk.images log.disk
    (λ image. g.met.D.Disk.images_now log.disk image told) db (apply_all (effects_in log.body) db) base))
