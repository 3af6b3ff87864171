use Rattle.std.proofs.Common.{◌+◌, ◌++◌, ◌∷◌, inl, inr, ℕ, take, drop, ◌∙◌, ap}
use Rattle.kom_disk.proofs.Moments.{begins, wider}
use Rattle.batch_log.specs.Gates.{IsGated}
use Rattle.batch_log.specs.Repair.{Mends}
use Rattle.batch_log.proofs.repairs.close_gate.Goals as goal

pub returns-then-gate-eq0-clause-closed : goal.returns-then-gate-eq0-clause-closed
returns-then-gate-eq0-clause-closed g c told =
    let bytes = g.D.Disk.bytes c.args.disk.now in
    record {
      is = c.requires.gate told
          ∙ ap (λ (gate : ℕ). take c.args.place bytes ++ gate ∷ drop (c.args.place + 1) bytes) c.if-gate-eq0.true;
      stable = c.requires.stable told;
    }

pub returns-then-gate-eq0-clause-any_moment : goal.returns-then-gate-eq0-clause-any_moment
returns-then-gate-eq0-clause-any_moment g c told =
    let start = c.args.disk.now in
    let bytes = g.D.Disk.bytes start in
    let before = take c.args.place bytes in
    let rest = drop (c.args.place + 1) bytes in
    begins g.D.Disk.moment g.D.Disk.images_at start (Mends before c.args.gate rest)
    (λ image left. inl (
      rest,
      c.requires.stable told image ((g.met.D.Disk.images_now start image told).0 left)
          ∙ c.requires.gate told ∙ ap (λ (gate : ℕ). before ++ gate ∷ rest) c.if-gate-eq0.true,
    ))

pub returns-clause-any_moment : goal.returns-clause-any_moment
returns-clause-any_moment g c told =
    let start = c.args.disk.now in
    let bytes = g.D.Disk.bytes start in
    let before = take c.args.place bytes in
    let rest = drop (c.args.place + 1) bytes in
    wider g.D.Disk.moment g.D.Disk.images_at start c.set_gate.new.disk (IsGated before rest)
    (Mends before c.args.gate rest) (c.set_gate.ensures.any_moment told)
    (λ at image from to is. inr (c.if-gate-eq0.false, is))
