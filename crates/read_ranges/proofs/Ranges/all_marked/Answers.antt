use Rattle.std.proofs.Common.{◌≢◌, ◌≤◌, ◌<◌, length, get_or, sym, ◌∙◌, arith}
use Rattle.read_ranges.specs.Numbers.{greatest}
use Rattle.read_ranges.proofs.Cuts.{marked_step, held_step, newly_step, set_fits}
use Rattle.read_ranges.proofs.Ranges.all_marked.Goals as goal
use Rattle.read_ranges.proofs.Ranges.all_marked.Goals.{then-not-holds+in_ok-mark, else-not-holds}

pub overflow_add-newly : goal.overflow_add-newly
overflow_add-newly c =
    let within : c.loop-number.number-index < length c.args.numbers.now = omega arith in
    let fits : get_or c.args.numbers.now c.loop-number.number-index 0 ≤ greatest =
    omega (arith, c.type_inv.numbers c.loop-number.number-index) in
    let more = newly_step _ _ _ _ _ (c.requires _ 0 within) fits (sym c.holds.ensures ∙ c.if-not-holds.true)
    c.in_ok-mark.ensures.ok c.loop-number.invariant.newly in
    omega (arith, more, set_fits c.mark.new.self.numbers)

pub loop-number-preserved : goal.loop-number-preserved
loop-number-preserved c =
    let within : c.loop-number.number-index < length c.args.numbers.now = omega arith in
    let some : get_or c.args.numbers.now c.loop-number.number-index 0 ≢ 0 = c.requires _ 0 within in
    let fits : get_or c.args.numbers.now c.loop-number.number-index 0 ≤ greatest =
    omega (arith, c.type_inv.numbers c.loop-number.number-index) in
    elim c.if-not-holds.branch [
      | then-not-holds+in_ok-mark w ↦ rw (w.read-is, w.newly-is) (record {
        ranges = marked_step _ _ _ _ _ within some fits w.in_ok-mark.ensures.ok c.loop-number.invariant.ranges;
        newly = newly_step _ _ _ _ _ some fits (sym c.holds.ensures
            ∙ w.if-not-holds.true) w.in_ok-mark.ensures.ok c.loop-number.invariant.newly;
      })
      | else-not-holds w ↦ rw (w.read-is, w.newly-is) (record {
        ranges = held_step _ _ _ _ within some fits (sym c.holds.ensures
            ∙ w.if-not-holds.false) c.loop-number.invariant.ranges;
        newly = c.loop-number.invariant.newly;
      })
    ]
