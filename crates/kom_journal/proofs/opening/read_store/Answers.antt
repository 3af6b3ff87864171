use Rattle.batch_log.proofs.Looking.{looks, looks_on}
use Rattle.kom_journal.proofs.opening.read_store.Goals as goal

pub returns-clause-stop : goal.returns-clause-stop
returns-clause-stop g c told =
    let start = c.args.disk.now in
    let measured = c.len.new.self in
    let headed = c.check_header.new.disk in
    looks_on g.D.Disk.moment g.D.Disk.images g.D.Disk.images_at g.D.Disk.tells told
    (λ disk image. g.met.D.Disk.images_now disk image told) start headed c.make_rows.new.disk
    (looks_on g.D.Disk.moment g.D.Disk.images g.D.Disk.images_at g.D.Disk.tells told
    (λ disk image. g.met.D.Disk.images_now disk image told) start measured headed
    (looks g.D.Disk.moment g.D.Disk.images g.D.Disk.images_at g.D.Disk.tells told
    (λ disk image. g.met.D.Disk.images_now disk image told) start measured c.len.ensures.time
    (c.len.ensures.stop told))
    (c.check_header.ensures.stop told))
    (c.make_rows.ensures.stop told)
