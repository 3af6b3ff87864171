use Rattle.batch_log.proofs.Looking.{looks}
use Rattle.batch_log.proofs.walks.read_block.Goals as goal

pub returns-in_err-read-clause-stop : goal.returns-in_err-read-clause-stop
returns-in_err-read-clause-stop g c told =
    looks g.D.Disk.moment g.D.Disk.images g.D.Disk.images_at g.D.Disk.tells told
    (λ disk image. g.met.D.Disk.images_now disk image told) c.args.disk.now c.read.new.self c.read.ensures.time
    (c.read.ensures.stop told)

pub returns-clause-stop : goal.returns-clause-stop
returns-clause-stop g c told =
    looks g.D.Disk.moment g.D.Disk.images g.D.Disk.images_at g.D.Disk.tells told
    (λ disk image. g.met.D.Disk.images_now disk image told) c.args.disk.now c.read.new.self c.read.ensures.time
    (c.read.ensures.stop told)
