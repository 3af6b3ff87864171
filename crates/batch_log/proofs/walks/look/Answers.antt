use Rattle.std.proofs.Common.{◌≡◌, ◌-◌, length, drop, arith}
use Rattle.std.proofs.lemmas.List.{length-drop}
use Rattle.batch_log.proofs.Finding.{found_short, found_whole, found_told, no_size}
use Rattle.batch_log.proofs.Looking.{looks}
use Rattle.batch_log.proofs.walks.look.Goals as goal

pub returns-then-left-lt9-clause-found : goal.returns-then-left-lt9-clause-found
returns-then-left-lt9-clause-found g c told long =
    let place = c.args.place in
    let rest = drop place (g.D.Disk.bytes c.args.disk.now) in
    let counts : length rest ≡ c.args.len - place =
    omega (arith, length-drop place (g.D.Disk.bytes c.args.disk.now), long) in
    found_short rest c.read.new.into (c.args.len - place) c.found_at.result counts (omega (arith, c.requires.0))
    (omega (arith, c.if-left-lt9.true)) (c.in_ok-read.ensures.given told) c.found_at.ensures.found

pub returns-clause-found : goal.returns-clause-found
returns-clause-found g c told long =
    let place = c.args.place in
    let rest = drop place (g.D.Disk.bytes c.args.disk.now) in
    let counts : length rest ≡ c.args.len - place =
    omega (arith, length-drop place (g.D.Disk.bytes c.args.disk.now), long) in
    found_whole rest c.read-2.new.into (c.args.len - place) c.size_in.result c.found_at-2.result counts
    (omega (arith, c.if-left-lt9.false)) (c.in_ok-read-2.ensures.given told) c.size_in.ensures.bytes
    c.size_in.ensures.size c.found_at-2.ensures.found

pub returns-in_err-read-clause-stop : goal.returns-in_err-read-clause-stop
returns-in_err-read-clause-stop g c told =
    looks g.D.Disk.moment g.D.Disk.images g.D.Disk.images_at g.D.Disk.tells told
    (λ disk image. g.met.D.Disk.images_now disk image told) c.args.disk.now c.read.new.self c.read.ensures.time
    (c.read.ensures.stop told)

pub returns-then-left-lt9-clause-stop : goal.returns-then-left-lt9-clause-stop
returns-then-left-lt9-clause-stop g c told =
    looks g.D.Disk.moment g.D.Disk.images g.D.Disk.images_at g.D.Disk.tells told
    (λ disk image. g.met.D.Disk.images_now disk image told) c.args.disk.now c.read.new.self c.read.ensures.time
    (c.read.ensures.stop told)

pub returns-in_err-read-2-clause-stop : goal.returns-in_err-read-2-clause-stop
returns-in_err-read-2-clause-stop g c told =
    looks g.D.Disk.moment g.D.Disk.images g.D.Disk.images_at g.D.Disk.tells told
    (λ disk image. g.met.D.Disk.images_now disk image told) c.args.disk.now c.read-2.new.self c.read-2.ensures.time
    (c.read-2.ensures.stop told)

pub returns-clause-stop : goal.returns-clause-stop
returns-clause-stop g c told =
    looks g.D.Disk.moment g.D.Disk.images g.D.Disk.images_at g.D.Disk.tells told
    (λ disk image. g.met.D.Disk.images_now disk image told) c.args.disk.now c.read-2.new.self c.read-2.ensures.time
    (c.read-2.ensures.stop told)

pub returns-then-left-lt9-clause-told : goal.returns-then-left-lt9-clause-told
returns-then-left-lt9-clause-told g c told =
    let one : length c.read.new.into ≡ 1 = omega arith in
    found_told c.args.place 0 (c.args.len - c.args.place) (g.D.Disk.reads c.args.disk.now)
    (g.D.Disk.reads c.read.new.self) c.read.new.into c.found_at.result (omega (arith, one))
    (c.in_ok-read.ensures.told told) (no_size c.read.new.into one) c.found_at.ensures.found

pub returns-clause-told : goal.returns-clause-told
returns-clause-told g c told =
    let nine : length c.read-2.new.into ≡ 9 = omega arith in
    found_told c.args.place c.size_in.result (c.args.len - c.args.place) (g.D.Disk.reads c.args.disk.now)
    (g.D.Disk.reads c.read-2.new.self) c.read-2.new.into c.found_at-2.result (omega (arith, nine))
    (c.in_ok-read-2.ensures.told told) c.size_in.ensures.size c.found_at-2.ensures.found
