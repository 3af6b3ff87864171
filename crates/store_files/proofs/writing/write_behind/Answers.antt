use Rattle.kom_disk.proofs.Moments.{one_call}
use Rattle.store_files.specs.Writing.{IsNoStore}
use Rattle.store_files.proofs.Reading.{no_shut}
use Rattle.store_files.proofs.Steps.{left_shut}
use Rattle.store_files.proofs.writing.write_behind.Goals as goal

pub returns-clause-shut : goal.returns-clause-shut
returns-clause-shut g c told generation shut =
    left_shut generation (g.D.Disk.images c.args.disk.now) (g.D.Disk.images c.write_at.new.self) c.args.at _
    c.requires.within.0 shut (c.write_at.ensures.stop told)

pub returns-clause-any_moment : goal.returns-clause-any_moment
returns-clause-any_moment g c told generation shut =
    let start = c.args.disk.now in
    let mid = c.write_at.new.self in
    let then = left_shut generation (g.D.Disk.images start) (g.D.Disk.images mid) c.args.at _ c.requires.within.0 shut
    (c.write_at.ensures.stop told) in
    one_call g.D.Disk.moment g.D.Disk.images_at g.D.Disk.tells told start mid IsNoStore c.write_at.ensures.time
    (λ at image left. no_shut generation 0 at image (shut image ((g.met.D.Disk.images_now start image told).0 left)))
    (λ at image left. no_shut generation 0 at image (then image ((g.met.D.Disk.images_now mid image told).0 left)))
