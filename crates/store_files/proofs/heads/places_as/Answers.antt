use Rattle.std.proofs.Common.{ℕ, drop, arith}
use Rattle.std.specs.Prelude.{◌==◌}
use Rattle.std.proofs.lemmas.List.{length-drop}
use Rattle.std.proofs.lemmas.List.Sums.{common_prefix_len-le}
use Rattle.store_files.proofs.heads.places_as.Goals as goal

pub returns-else-same-header-clause-same : goal.returns-else-same-header-clause-same
returns-else-same-header-clause-same c =
    let same = c.loop-same.same in
    let kept = c.loop-same.invariant in
    let header = drop same c.args.header.now in
    omega (
      arith,
      kept.counts,
      kept.in_header,
      c.if-same-header.false,
      length-drop same c.args.header.now,
      (common_prefix_len-le (λ (one other : ℕ). one == other) (drop same c.args.bytes.now) header).1,
    )
