use Rattle.std.proofs.Common.{sym, subst, ◌∙◌}
use Rattle.kom_model.specs.Db.{empty_db}
use Rattle.kom_journal.specs.Files.{header}
use Rattle.kom_journal.specs.Opened.{IsMadeOf, IsLeftOfFile}
use Rattle.kom_journal.proofs.Opened.{gate_is, counts_all, sync_fails, read_leaves, read_opens, repair_opens}
use Rattle.kom_journal.proofs.Opened.{repair_keeps}
use Rattle.kom_journal.proofs.Opens.{opened_stands, repaired_sound, repaired_stored}
use Rattle.kom_journal.proofs.Sound.{one_of}
use Rattle.kom_journal.proofs.opening.open_rows.Goals as goal

pub returns-in-Err-clause-any_moment : goal.returns-in-Err-clause-any_moment
returns-in-Err-clause-any_moment g c told db stands kept =
    sync_fails g.D.Disk.moment g.D.Disk.images_at g.D.Disk.bytes g.D.Disk.images g.D.Disk.tells told
    (λ disk image. g.met.D.Disk.images_now disk image told) c.args.disk.now c.sync.new.self
    (IsLeftOfFile header empty_db (g.D.Disk.bytes c.args.disk.now) db) c.sync.ensures.time (c.sync.ensures.stop told)

pub returns-in_err-rows-clause-any_moment : goal.returns-in_err-rows-clause-any_moment
returns-in_err-rows-clause-any_moment g c told db stands kept =
    read_opens g.D.Disk.moment g.D.Disk.images_at g.D.Disk.bytes g.D.Disk.images g.D.Disk.tells told
    (λ disk image. g.met.D.Disk.images_now disk image told) header empty_db c.args.disk.now c.sync.new.self
    c.read_store.new.disk db
    c.sync.ensures.time (c.sync.ensures.stop told) (c.sync.ensures.bytes told) (c.in-Ok.ensures.durable told)
    (c.read_store.ensures.stop told) stands

pub repair-requires-clause-gate : goal.repair-requires-clause-gate
repair-requires-clause-gate g c told =
    let start = c.args.disk.now in
    let mid = c.sync.new.self in
    let read = c.read_store.new.disk in
    let rows = c.in_ok-rows.rows.db in
    let end = c.in_ok-rows.end in
    let of = c.in_ok-rows.ensures.made told in
    let of_read : IsMadeOf header empty_db end.place end.gate end.batches rows (g.D.Disk.bytes read) =
    subst (IsMadeOf header empty_db end.place end.gate end.batches rows) (sym (c.read_store.ensures.bytes told)) of in
    gate_is header empty_db end.place end.gate end.batches rows (g.D.Disk.bytes read) of_read

pub repair-requires-clause-stable : goal.repair-requires-clause-stable
repair-requires-clause-stable g c told image left =
    c.in-Ok.ensures.durable told image
    (read_leaves g.D.Disk.moment g.D.Disk.images_at g.D.Disk.bytes g.D.Disk.images g.D.Disk.tells told
    (λ disk image. g.met.D.Disk.images_now disk image told) c.sync.new.self c.read_store.new.disk
    (c.read_store.ensures.stop told) image left)
    ∙ sym (c.read_store.ensures.bytes told)

pub returns-in-Ok-repair-clause-stands : goal.returns-in-Ok-repair-clause-stands
returns-in-Ok-repair-clause-stands g c told =
    let start = c.args.disk.now in
    let mid = c.sync.new.self in
    let read = c.read_store.new.disk in
    let rows = c.in_ok-rows.rows.db in
    let end = c.in_ok-rows.end in
    let of = c.in_ok-rows.ensures.made told in
    let of_start : IsMadeOf header empty_db end.place end.gate end.batches rows (g.D.Disk.bytes start) =
    subst (IsMadeOf header empty_db end.place end.gate end.batches rows) (c.sync.ensures.bytes told) of in
    opened_stands header empty_db end.place end.gate end.batches rows (g.D.Disk.bytes start) of_start

pub returns-in-Ok-repair-clause-rows : goal.returns-in-Ok-repair-clause-rows
returns-in-Ok-repair-clause-rows g c told image left =
    let start = c.args.disk.now in
    let mid = c.sync.new.self in
    let read = c.read_store.new.disk in
    let rows = c.in_ok-rows.rows.db in
    let end = c.in_ok-rows.end in
    let of = c.in_ok-rows.ensures.made told in
    let of_read : IsMadeOf header empty_db end.place end.gate end.batches rows (g.D.Disk.bytes read) =
    subst (IsMadeOf header empty_db end.place end.gate end.batches rows) (sym (c.read_store.ensures.bytes told)) of in
    let repaired = c.in-Ok-repair.ensures.repaired told in
    one_of header empty_db rows image
    (repaired_sound header empty_db end.place end.gate end.batches rows (g.D.Disk.bytes read) of_read image
    (repaired.stable image left ∙ repaired.is))

pub returns-in-Ok-repair-clause-stored : goal.returns-in-Ok-repair-clause-stored
returns-in-Ok-repair-clause-stored g c told =
    let start = c.args.disk.now in
    let mid = c.sync.new.self in
    let read = c.read_store.new.disk in
    let rows = c.in_ok-rows.rows.db in
    let end = c.in_ok-rows.end in
    let of = c.in_ok-rows.ensures.made told in
    let of_read : IsMadeOf header empty_db end.place end.gate end.batches rows (g.D.Disk.bytes read) =
    subst (IsMadeOf header empty_db end.place end.gate end.batches rows) (sym (c.read_store.ensures.bytes told)) of in
    repaired_stored header empty_db end.place end.gate end.batches rows (g.D.Disk.bytes read) of_read
    (g.D.Disk.bytes c.repair.new.disk) (g.D.Disk.images c.repair.new.disk) (c.in-Ok-repair.ensures.repaired told)

pub returns-in-Ok-repair-clause-counts : goal.returns-in-Ok-repair-clause-counts
returns-in-Ok-repair-clause-counts g c told =
    let start = c.args.disk.now in
    let mid = c.sync.new.self in
    let read = c.read_store.new.disk in
    let rows = c.in_ok-rows.rows.db in
    let end = c.in_ok-rows.end in
    let of = c.in_ok-rows.ensures.made told in
    let of_start : IsMadeOf header empty_db end.place end.gate end.batches rows (g.D.Disk.bytes start) =
    subst (IsMadeOf header empty_db end.place end.gate end.batches rows) (c.sync.ensures.bytes told) of in
    counts_all header empty_db end.place end.gate end.batches rows (g.D.Disk.bytes start) of_start

pub returns-in-Ok-repair-clause-any_moment : goal.returns-in-Ok-repair-clause-any_moment
returns-in-Ok-repair-clause-any_moment g c told db stands kept =
    let start = c.args.disk.now in
    let mid = c.sync.new.self in
    let read = c.read_store.new.disk in
    let rows = c.in_ok-rows.rows.db in
    let end = c.in_ok-rows.end in
    let of = c.in_ok-rows.ensures.made told in
    let of_start : IsMadeOf header empty_db end.place end.gate end.batches rows (g.D.Disk.bytes start) =
    subst (IsMadeOf header empty_db end.place end.gate end.batches rows) (c.sync.ensures.bytes told) of in
    repair_opens g.D.Disk.moment g.D.Disk.images_at g.D.Disk.bytes g.D.Disk.images g.D.Disk.tells told
    (λ disk image. g.met.D.Disk.images_now disk image told) header empty_db start mid read db c.sync.ensures.time
    (c.sync.ensures.stop told) (c.sync.ensures.bytes told) (c.in-Ok.ensures.durable told)
    (c.read_store.ensures.stop told) stands c.repair.new.disk end.place end.gate
    end.batches rows (c.read_store.ensures.bytes told ∙ c.sync.ensures.bytes told) of_start
    (kept (g.D.Disk.bytes start) (g.met.D.Disk.reads_as_image start told)) (c.repair.ensures.any_moment told)

pub returns-in-Ok-repair-clause-kept : goal.returns-in-Ok-repair-clause-kept
returns-in-Ok-repair-clause-kept g c told kept =
    let start = c.args.disk.now in
    let mid = c.sync.new.self in
    let read = c.read_store.new.disk in
    let rows = c.in_ok-rows.rows.db in
    let end = c.in_ok-rows.end in
    let of = c.in_ok-rows.ensures.made told in
    let of_start : IsMadeOf header empty_db end.place end.gate end.batches rows (g.D.Disk.bytes start) =
    subst (IsMadeOf header empty_db end.place end.gate end.batches rows) (c.sync.ensures.bytes told) of in
    let db = rows in
    let stands = opened_stands header empty_db end.place end.gate end.batches rows (g.D.Disk.bytes start) of_start in
    repair_keeps g.D.Disk.moment g.D.Disk.images_at g.D.Disk.bytes g.D.Disk.images g.D.Disk.tells told
    (λ disk image. g.met.D.Disk.images_now disk image told) header empty_db start mid read db c.sync.ensures.time
    (c.sync.ensures.stop told) (c.sync.ensures.bytes told) (c.in-Ok.ensures.durable told)
    (c.read_store.ensures.stop told) stands c.repair.new.disk end.place end.gate
    end.batches rows (c.read_store.ensures.bytes told ∙ c.sync.ensures.bytes told) of_start
    (kept (g.D.Disk.bytes start) (g.met.D.Disk.reads_as_image start told)) (c.repair.ensures.any_moment told)

pub returns-in-Err-repair-clause-any_moment : goal.returns-in-Err-repair-clause-any_moment
returns-in-Err-repair-clause-any_moment g c told db stands kept =
    let start = c.args.disk.now in
    let mid = c.sync.new.self in
    let read = c.read_store.new.disk in
    let rows = c.in_ok-rows.rows.db in
    let end = c.in_ok-rows.end in
    let of = c.in_ok-rows.ensures.made told in
    let of_start : IsMadeOf header empty_db end.place end.gate end.batches rows (g.D.Disk.bytes start) =
    subst (IsMadeOf header empty_db end.place end.gate end.batches rows) (c.sync.ensures.bytes told) of in
    repair_opens g.D.Disk.moment g.D.Disk.images_at g.D.Disk.bytes g.D.Disk.images g.D.Disk.tells told
    (λ disk image. g.met.D.Disk.images_now disk image told) header empty_db start mid read db c.sync.ensures.time
    (c.sync.ensures.stop told) (c.sync.ensures.bytes told) (c.in-Ok.ensures.durable told)
    (c.read_store.ensures.stop told) stands c.repair.new.disk end.place end.gate
    end.batches rows (c.read_store.ensures.bytes told ∙ c.sync.ensures.bytes told) of_start
    (kept (g.D.Disk.bytes start) (g.met.D.Disk.reads_as_image start told)) (c.repair.ensures.any_moment told)

pub returns-in-Err-repair-clause-kept : goal.returns-in-Err-repair-clause-kept
returns-in-Err-repair-clause-kept g c told kept =
    let start = c.args.disk.now in
    let mid = c.sync.new.self in
    let read = c.read_store.new.disk in
    let rows = c.in_ok-rows.rows.db in
    let end = c.in_ok-rows.end in
    let of = c.in_ok-rows.ensures.made told in
    let of_start : IsMadeOf header empty_db end.place end.gate end.batches rows (g.D.Disk.bytes start) =
    subst (IsMadeOf header empty_db end.place end.gate end.batches rows) (c.sync.ensures.bytes told) of in
    let db = rows in
    let stands = opened_stands header empty_db end.place end.gate end.batches rows (g.D.Disk.bytes start) of_start in
    repair_keeps g.D.Disk.moment g.D.Disk.images_at g.D.Disk.bytes g.D.Disk.images g.D.Disk.tells told
    (λ disk image. g.met.D.Disk.images_now disk image told) header empty_db start mid read db c.sync.ensures.time
    (c.sync.ensures.stop told) (c.sync.ensures.bytes told) (c.in-Ok.ensures.durable told)
    (c.read_store.ensures.stop told) stands c.repair.new.disk end.place end.gate
    end.batches rows (c.read_store.ensures.bytes told ∙ c.sync.ensures.bytes told) of_start
    (kept (g.D.Disk.bytes start) (g.met.D.Disk.reads_as_image start told)) (c.repair.ensures.any_moment told)
