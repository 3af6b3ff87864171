use Rattle.std.proofs.Common.{◌≡◌, ◌≢◌, ◌+◌, ◌<◌, length, sym, ap, rules, arith}
use Rattle.std.proofs.lemmas.List.{drop_more}
use Rattle.read_ranges.specs.Numbers.{range}
use Rattle.read_ranges.specs.Merged.{merge_all}
use Rattle.read_ranges.specs.ListFault.{range_at, EndWithinBelow}
use Rattle.read_ranges.proofs.Merging.{merge_touching, merge_apart, others_after, others_after_set, ends_first}
use Rattle.read_ranges.proofs.Merging.{ends_more}
use Rattle.read_ranges.proofs.list.merge.Goals as goal
use Rattle.read_ranges.proofs.list.merge.Goals.{After-touches, then-touches, else-touches}

pub loop-at-init : goal.loop-at-init
loop-at-init c =
    let some : 0 < length c.args.list.now = grind arith in
    rw c.within_bounds-last.ensures.same (record {
      whole = ap merge_all (sym (drop_more c.args.list.now 0 (range 0 0) some));
      others = search rules;
      few = omega arith;
      bounds = ends_first _ c.within_bounds-last.ensures.bound;
    })

-- the range that is read ends within bounds
bounds_more : (c : After-touches) → EndWithinBelow c.args.list.now (c.loop-at.at + 1)
bounds_more c =
    ends_more c.loop-at.list c.args.list.now c.loop-at.at (omega arith) (omega arith)
    c.loop-at.invariant.others c.loop-at.invariant.bounds c.within_bounds-range.ensures.bound

pub loop-at-preserved : goal.loop-at-preserved
loop-at-preserved c =
    let within : c.loop-at.at < length c.loop-at.list = omega arith in
    let within_others : c.loop-at.at < length c.args.list.now = omega arith in
    let bounds = bounds_more (goal.at.loop-at-preserved c).After-touches in
    elim c.if-touches.branch [
      | then-touches w ↦
          let touches : (range_at c.loop-at.list c.loop-at.at).first ≡ c.loop-at.last.last + 1 = grind arith in
          rw (w.list-is, w.last-is, w.count-is, c.within_bounds-range.ensures.same) (record {
            whole = merge_touching _ _ _ c.loop-at.at c.loop-at.last within c.loop-at.invariant.whole touches;
            others = others_after _ _ _ within within_others c.loop-at.invariant.others;
            few = omega arith;
            bounds = bounds;
          })
      | else-touches w ↦
          let apart : (range_at c.loop-at.list c.loop-at.at).first ≢ c.loop-at.last.last + 1 = grind arith in
          rw (w.list-is, w.last-is, w.count-is, c.within_bounds-range.ensures.same) (record {
            whole = merge_apart _ _ _ c.loop-at.at c.loop-at.last within c.loop-at.invariant.whole
                c.loop-at.invariant.few apart;
            others = others_after_set _ _ _ within within_others c.loop-at.invariant.others _ _ c.loop-at.invariant.few;
            few = omega arith;
            bounds = bounds;
          })
    ]
