use Rattle.std.proofs.Common.{ap, arith}
use Rattle.read_ranges.specs.Numbers.{ReadSet}
use Rattle.read_ranges.specs.Merged.{merge_all}
use Rattle.read_ranges.proofs.Sets.{ranges_of-union_of}
use Rattle.read_ranges.proofs.Lists.{touch_from_faultless, rise_merged, union_of-merged, length-merged}
use Rattle.read_ranges.proofs.Ranges.set.Goals as goal

pub returns-in_err-reserve-clause-full : goal.returns-in_err-reserve-clause-full
returns-in_err-reserve-clause-full c _ =
    let touch = touch_from_faultless c.args.list.now c.in_ok-check.ensures.bounds c.in_ok-check.ensures.faultless in
    let view = ap (λ (s : ReadSet). s.spare) c.self.view_is in
    rw (
      ← union_of-merged c.args.list.now touch,
      ranges_of-union_of (merge_all c.args.list.now)
          (rise_merged 1 c.args.list.now touch),
    )
    (omega (arith, c.in_err-reserve.ensures.full, c.merged_count.ensures, view))

pub returns-in_err-reserve-clause-long : goal.returns-in_err-reserve-clause-long
returns-in_err-reserve-clause-long c _ =
    let view = ap (λ (s : ReadSet). s.spare) c.self.view_is in
    omega (arith, c.in_err-reserve.ensures.full, c.merged_count.ensures, view, length-merged c.args.list.now)

pub invariant_of-self-2 : goal.invariant_of-self-2
invariant_of-self-2 c = rw c.refill.ensures.items (rise_merged 1 c.args.list.now
    (touch_from_faultless c.args.list.now c.in_ok-check.ensures.bounds c.in_ok-check.ensures.faultless))

pub returns-clause-ok : goal.returns-clause-ok
returns-clause-ok c = rw c.refill.ensures.items (union_of-merged c.args.list.now
    (touch_from_faultless c.args.list.now c.in_ok-check.ensures.bounds c.in_ok-check.ensures.faultless))
