use Rattle.std.proofs.Common.{ap, ◌∙◌}
use Rattle.kom_model.specs.Db.{empty_db}
use Rattle.kom_journal.specs.Files.{header}
use Rattle.kom_journal.specs.Pending.{effects_in}
use Rattle.kom_journal.proofs.Images.{for_on, kept_on}
use Rattle.kom_journal.proofs.Sound.{one_of}
use Rattle.kom_journal.proofs.Spelled.{effects_of_none}
use Rattle.kom_journal.proofs.Views.{made_whole, made_for}
use Rattle.kom_journal.proofs.journal.Journal.make.Goals as goal

pub invariant_of-result : goal.invariant_of-result
invariant_of-result g c =
    let made = c.new-in-Ok-write_header in
    made_whole g.D.Disk.moment g.D.Disk.images_at g.D.Disk.bytes g.D.Disk.images g.D.Disk.tells
    c.write_header.new.disk made.result made.ensures.disk made.ensures.place made.ensures.empty
    c.in-Ok-write_header.ensures.written

pub returns-in-Ok-write_header-clause-pending : goal.returns-in-Ok-write_header-clause-pending
returns-in-Ok-write_header-clause-pending g c =
    ap effects_in c.new-in-Ok-write_header.ensures.empty ∙ effects_of_none

pub returns-in-Ok-write_header-clause-rows : goal.returns-in-Ok-write_header-clause-rows
returns-in-Ok-write_header-clause-rows g c told =
    let made = c.new-in-Ok-write_header in
    for_on made.result.disk g.D.Disk.images empty_db
    (λ bytes left. one_of header empty_db empty_db bytes
    (made_for g.D.Disk.moment g.D.Disk.images_at g.D.Disk.bytes g.D.Disk.images g.D.Disk.tells
    c.write_header.new.disk made.result.disk made.ensures.disk (c.in-Ok-write_header.ensures.written told) bytes left))

pub returns-in-Ok-write_header-clause-kept : goal.returns-in-Ok-write_header-clause-kept
returns-in-Ok-write_header-clause-kept g c told =
    let made = c.new-in-Ok-write_header in
    kept_on made.result.disk g.D.Disk.images
    (λ bytes left. (made_for g.D.Disk.moment g.D.Disk.images_at g.D.Disk.bytes g.D.Disk.images g.D.Disk.tells
    c.write_header.new.disk made.result.disk made.ensures.disk (c.in-Ok-write_header.ensures.written told) bytes
    left).sound)
