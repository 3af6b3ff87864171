use Rattle.std.proofs.Common.{◌<◌, ◌+◌, ◌-◌, length, drop, refl, sym, ◌∙◌, ap, subst, arith}
use Rattle.batch_log.specs.Walk.{Stands, FitsIn}
use Rattle.batch_log.proofs.Looking.{unread, looks_on}
use Rattle.batch_log.proofs.Walking.{passed_none, passed_more}
use Rattle.batch_log.proofs.walks.walk.Goals as goal

pub gates-init : goal.gates-init
gates-init g c =
    let start = c.args.disk.now in
    record {
      within = c.requires.0;
      counted = omega arith;
      same_size = refl;
      same_faults = refl;
      same_bytes = λ told. refl;
      stop = λ told. unread g.D.Disk.moment g.D.Disk.images g.D.Disk.images_at g.D.Disk.tells told
          (λ disk image. g.met.D.Disk.images_now disk image told) start;
      passed = λ told long. passed_none c.args.place (g.D.Disk.bytes start) (omega (arith, long, c.requires.0));
    }

pub gates-preserved : goal.gates-preserved
gates-preserved g c =
    let kept = c.gates.invariant in
    let start = c.args.disk.now in
    let mid = c.gates.disk in
    let e = c.in_ok-found.ensures in
    let size = c.in-Batch.size in
    let fits : 9 + size < c.args.len - c.gates.at = subst (FitsIn (c.args.len - c.gates.at)) c.in-Batch.is e.within in
    record {
      within = omega (arith, fits);
      counted = omega (arith, kept.counted);
      same_size = e.size ∙ kept.same_size;
      same_faults = e.faults.ok ∙ kept.same_faults;
      same_bytes = λ told. e.bytes told ∙ kept.same_bytes told;
      stop = λ told. looks_on g.D.Disk.moment g.D.Disk.images g.D.Disk.images_at g.D.Disk.tells told
          (λ disk image. g.met.D.Disk.images_now disk image told) start mid c.look.new.disk (kept.stop told)
          (e.stop told);
      passed = λ told long. passed_more c.args.place c.gates.at c.gates.batches size (g.D.Disk.bytes start)
          (g.D.Disk.bytes mid) (kept.same_bytes told) (kept.passed told long)
          (subst (Stands (drop c.gates.at (g.D.Disk.bytes mid))) c.in-Batch.is
          (e.found told (long ∙ ap length (sym (kept.same_bytes told)))));
    }
