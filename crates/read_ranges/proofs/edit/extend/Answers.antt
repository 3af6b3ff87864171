use Rattle.std.proofs.Common.{arith}
use Rattle.std.proofs.lemmas.List.{get_or_default}
use Rattle.read_ranges.specs.Numbers.{range}
use Rattle.read_ranges.proofs.Edits.{mark_join, mark_after, mark_last, next_begins}
use Rattle.read_ranges.proofs.edit.extend.Goals as goal
use Rattle.read_ranges.proofs.edit.extend.Goals.{in_default-via-in-Some+else-next-n, in_default-via-in_default}

pub overflow_sub-next : goal.overflow_sub-next
overflow_sub-next c =
    let found = rw c.as_slice-ranges.ensures at c.in-Some.ensures.lookup in
    next_begins _ c.requires.ranges c.args.at _ c.requires.end.within
    (get_or_default _ _ (range 0 0) _ c.requires.end.within) _ found.3.0 found.1

pub returns-in-Some-clause-marked : goal.returns-in-Some-clause-marked
returns-in-Some-clause-marked c =
    let found = rw c.as_slice-ranges.ensures at c.in-Some.ensures.lookup in
    let begins = next_begins _ c.requires.ranges c.args.at _ c.requires.end.within
    (get_or_default _ _ (range 0 0) _ c.requires.end.within) _ found.3.0 found.1 in
    rw (c.remove.ensures.items, c.write.ensures.items, c.as_slice-ranges.ensures)
    (mark_join _ c.requires.ranges c.args.at _ c.requires.end.within
    (get_or_default _ _ (range 0 0) _ c.requires.end.within) _ found.3.0 found.1 c.args.n c.requires.end.end
    (omega (arith, begins)))

pub returns-in_default-clause-marked : goal.returns-in_default-clause-marked
returns-in_default-clause-marked c = rw (c.write-in_default.ensures.items, c.as_slice-ranges.ensures)
    (elim c.in_default.branch [
      | in_default-via-in-Some+else-next-n w ↦
          let found = rw c.as_slice-ranges.ensures at w.in-Some.ensures.lookup in
          mark_after _ c.requires.ranges c.args.at _ c.requires.end.within
          (get_or_default _ _ (range 0 0) _ c.requires.end.within) _ found.3.0 found.1 c.args.n c.requires.end.end
          (omega arith)
      | in_default-via-in_default w ↦
          let missing = rw c.as_slice-ranges.ensures at w.in_default.ensures.lookup in
          mark_last _ c.requires.ranges c.args.at _ c.requires.end.within
          (get_or_default _ _ (range 0 0) _ c.requires.end.within) c.args.n (omega arith) c.requires.end.end missing.3
    ])
