use Rattle.std.proofs.Common.{◌≡◌, ◌+◌, length, take, drop, ◌∙◌, arith}
use Rattle.kom_disk.proofs.Moments.{begins}
use Rattle.batch_log.specs.Gates.{IsShut}
use Rattle.batch_log.proofs.Mending.{none_after}
use Rattle.batch_log.proofs.repairs.cut_rest.Goals as goal

pub returns-then-left-eq1-clause-cut : goal.returns-then-left-eq1-clause-cut
returns-then-left-eq1-clause-cut g c told =
    let start = c.args.disk.now in
    let bytes = g.D.Disk.bytes start in
    let long : length bytes ≡ c.args.place + 1 =
    omega (arith, g.met.D.Disk.counts_bytes start told, c.requires.within.0, c.requires.within.1) in
    record {
      is = none_after c.args.place bytes 0 long (c.requires.closed told);
      stable = c.requires.stable told;
    }

pub returns-then-left-eq1-clause-any_moment : goal.returns-then-left-eq1-clause-any_moment
returns-then-left-eq1-clause-any_moment g c told =
    let start = c.args.disk.now in
    let bytes = g.D.Disk.bytes start in
    begins g.D.Disk.moment g.D.Disk.images_at start (IsShut (take c.args.place bytes))
    (λ image left. (
      drop (c.args.place + 1) bytes,
      c.requires.stable told image ((g.met.D.Disk.images_now start image told).0 left) ∙ c.requires.closed told,
    ))

pub cut_after-requires-clause-closed : goal.cut_after-requires-clause-closed
cut_after-requires-clause-closed g c told =
    (drop (c.args.place + 1) (g.D.Disk.bytes c.args.disk.now), c.requires.closed told)
