use Rattle.std.proofs.Common.{◌+◌, take, ◌∙◌}
use Rattle.kom_disk.proofs.Moments.{one_call, in_turn}
use Rattle.batch_log.specs.Gates.{IsShut}
use Rattle.batch_log.proofs.Torn.{begins_shut, left_shut, stable_as, written_after}
use Rattle.std.proofs.Common.{ap}
use Rattle.batch_log.proofs.gates.write_after.Goals as goal

pub returns-in_err-write_at-clause-any_moment : goal.returns-in_err-write_at-clause-any_moment
returns-in_err-write_at-clause-any_moment g c told =
    let start = c.args.disk.now in
    let mid = c.write_at.new.self in
    let rest = c.requires.at_rest told in
    let place = c.args.place in
    let bytes = g.D.Disk.bytes start in
    one_call g.D.Disk.moment g.D.Disk.images_at g.D.Disk.tells told start mid (IsShut (take place bytes))
    c.write_at.ensures.time
    (λ at image left. begins_shut place bytes image rest.closed
    (ap (take (place + 1)) (rest.stable image ((g.met.D.Disk.images_now start image told).0 left))))
    (λ at image left. left_shut bytes (g.D.Disk.images start) (g.D.Disk.images mid) rest.stable place _ rest.closed
    (c.write_at.ensures.stop told) image ((g.met.D.Disk.images_now mid image told).0 left))

pub returns-clause-any_moment : goal.returns-clause-any_moment
returns-clause-any_moment g c told =
    let start = c.args.disk.now in
    let mid = c.write_at.new.self in
    let rest = c.requires.at_rest told in
    let place = c.args.place in
    let bytes = g.D.Disk.bytes start in
    let then = left_shut bytes (g.D.Disk.images start) (g.D.Disk.images mid) rest.stable place _ rest.closed
    (c.write_at.ensures.stop told) in
    let first = one_call g.D.Disk.moment g.D.Disk.images_at g.D.Disk.tells told start mid (IsShut (take place bytes))
    c.write_at.ensures.time
    (λ at image left. begins_shut place bytes image rest.closed
    (ap (take (place + 1)) (rest.stable image ((g.met.D.Disk.images_now start image told).0 left))))
    (λ at image left. then image ((g.met.D.Disk.images_now mid image told).0 left)) in
    in_turn g.D.Disk.moment g.D.Disk.images_at start mid c.sync.new.self _ first
    (one_call g.D.Disk.moment g.D.Disk.images_at g.D.Disk.tells told mid c.sync.new.self (IsShut (take place bytes))
    c.sync.ensures.time
    (λ at image left. then image ((g.met.D.Disk.images_now mid image told).0 left))
    (λ at image left. then image (c.sync.ensures.stop told image
    ((g.met.D.Disk.images_now c.sync.new.self image told).0 left))))

pub returns-clause-written : goal.returns-clause-written
returns-clause-written g c told =
    let rest = c.requires.at_rest told in
    let is = c.sync.ensures.bytes told ∙ c.in_ok-write_at.ensures.written told
    ∙ written_after c.args.place _ c.args.chunk.now rest.closed in
    stable_as _ _ is _ c.sync.result (c.sync.ensures.durable told)
