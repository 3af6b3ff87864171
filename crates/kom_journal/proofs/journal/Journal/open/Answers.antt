use Rattle.std.proofs.Common.{ap, sym, subst, ◌∙◌}
use Rattle.kom_model.specs.Db.{Db, empty_db}
use Rattle.kom_journal.specs.Files.{header}
use Rattle.kom_journal.specs.Images.{StandsFor, AreFor, as_read, images, images_at, moment, IsLeftOf}
use Rattle.kom_journal.specs.Opened.{Opens}
use Rattle.kom_journal.specs.Opening.{IsCauseInFile}
use Rattle.kom_journal.specs.Pending.{effects_in}
use Rattle.kom_journal.proofs.Damage.{stands_whole}
use Rattle.kom_journal.proofs.Images.{stands_on, file_stands, counts_on, cause_on, kept_on, files_kept, for_on}
use Rattle.kom_journal.proofs.Images.{opens_on}
use Rattle.kom_journal.proofs.Spelled.{effects_of_none}
use Rattle.kom_journal.proofs.Views.{opened_whole}
use Rattle.kom_journal.proofs.journal.Journal.open.Goals as goal

pub returns-in-Err-clause-cause : goal.returns-in-Err-clause-cause
returns-in-Err-clause-cause g c told =
    cause_on c.args.disk g.D.Disk.bytes c.in-Err.fault (c.in-Err.ensures.cause told)

pub returns-in-Err-clause-undamaged : goal.returns-in-Err-clause-undamaged
returns-in-Err-clause-undamaged g c told kept place same =
    let file = g.D.Disk.bytes c.args.disk in
    let sound =
    files_kept c.args.disk g.D.Disk.images kept file (g.met.D.Disk.reads_as_image c.args.disk told) in
    stands_whole header empty_db sound.db file place sound.stands
    (subst (IsCauseInFile file) same (c.in-Err.ensures.cause told))

pub returns-in-Err-clause-any_moment : goal.returns-in-Err-clause-any_moment
returns-in-Err-clause-any_moment g c told db stands kept =
    opens_on g.D.Disk.moment g.D.Disk.images_at g.D.Disk.bytes g.D.Disk.images c.args.disk c.open_rows.new.disk db
    (c.open_rows.ensures.any_moment told db (file_stands c.args.disk g.D.Disk.bytes db stands)
    (files_kept c.args.disk g.D.Disk.images kept))

pub returns-in-Err-clause-kept : goal.returns-in-Err-clause-kept
returns-in-Err-clause-kept g c told kept =
    kept_on c.open_rows.new.disk g.D.Disk.images
    (c.open_rows.ensures.kept told (files_kept c.args.disk g.D.Disk.images kept))

pub invariant_of-result : goal.invariant_of-result
invariant_of-result g c =
    let made = c.new-in-Ok-new in
    opened_whole g.D.Disk.moment g.D.Disk.images_at g.D.Disk.bytes g.D.Disk.images g.D.Disk.tells
    c.open_rows.new.disk made.result c.in-Ok.opened.1.place made.ensures.disk made.ensures.place made.ensures.empty
    c.in-Ok.ensures.stored

pub returns-in-Ok-new-clause-stands : goal.returns-in-Ok-new-clause-stands
returns-in-Ok-new-clause-stands g c told =
    subst (λ (db : Db). StandsFor db (as_read g.D.Disk.bytes c.args.disk))
    (sym (ap (λ stored. stored.db) c.into_stored.ensures.same))
    (stands_on c.args.disk g.D.Disk.bytes c.in-Ok.opened.0.db (c.in-Ok.ensures.stands told))

pub returns-in-Ok-new-clause-rows : goal.returns-in-Ok-new-clause-rows
returns-in-Ok-new-clause-rows g c told =
    let made = c.new-in-Ok-new in
    subst (λ (db : Db). AreFor (images g.D.Disk.images made.result.disk) db)
    (sym (ap (λ stored. stored.db) c.into_stored.ensures.same))
    (for_on made.result.disk g.D.Disk.images c.in-Ok.opened.0.db
    (λ bytes left. c.in-Ok.ensures.rows told bytes (subst (λ d. g.D.Disk.images d bytes) made.ensures.disk left)))

pub returns-in-Ok-new-clause-pending : goal.returns-in-Ok-new-clause-pending
returns-in-Ok-new-clause-pending g c = ap effects_in c.new-in-Ok-new.ensures.empty ∙ effects_of_none

pub returns-in-Ok-new-clause-batches : goal.returns-in-Ok-new-clause-batches
returns-in-Ok-new-clause-batches g c told =
    counts_on c.args.disk g.D.Disk.bytes c.in-Ok.opened.1.batches (c.in-Ok.ensures.counts told)

pub returns-in-Ok-new-clause-any_moment : goal.returns-in-Ok-new-clause-any_moment
returns-in-Ok-new-clause-any_moment g c told db stands kept =
    subst (λ d. Opens (moment g.D.Disk.moment) (images_at g.D.Disk.images_at) c.args.disk d
    (images g.D.Disk.images c.args.disk) (IsLeftOf (as_read g.D.Disk.bytes c.args.disk) db))
    (sym c.new-in-Ok-new.ensures.disk)
    (opens_on g.D.Disk.moment g.D.Disk.images_at g.D.Disk.bytes g.D.Disk.images c.args.disk c.open_rows.new.disk db
    (c.open_rows.ensures.any_moment told db (file_stands c.args.disk g.D.Disk.bytes db stands)
    (files_kept c.args.disk g.D.Disk.images kept)))

pub returns-in-Ok-new-clause-kept : goal.returns-in-Ok-new-clause-kept
returns-in-Ok-new-clause-kept g c told kept =
    let made = c.new-in-Ok-new in
    let sound = c.open_rows.ensures.kept told (files_kept c.args.disk g.D.Disk.images kept) in
    kept_on made.result.disk g.D.Disk.images
    (λ bytes left. sound bytes (subst (λ d. g.D.Disk.images d bytes) made.ensures.disk left))

pub returns-in-Err-new-clause-any_moment : goal.returns-in-Err-new-clause-any_moment
returns-in-Err-new-clause-any_moment g c told db stands kept =
    opens_on g.D.Disk.moment g.D.Disk.images_at g.D.Disk.bytes g.D.Disk.images c.args.disk c.open_rows.new.disk db
    (c.open_rows.ensures.any_moment told db (file_stands c.args.disk g.D.Disk.bytes db stands)
    (files_kept c.args.disk g.D.Disk.images kept))

pub returns-in-Err-new-clause-kept : goal.returns-in-Err-new-clause-kept
returns-in-Err-new-clause-kept g c told kept =
    kept_on c.open_rows.new.disk g.D.Disk.images
    (c.open_rows.ensures.kept told (files_kept c.args.disk g.D.Disk.images kept))
