use Rattle.std.proofs.Common.{◌+◌, ◌-◌, ◌≤◌, length, set, arith}
use Rattle.std.specs.List.{insert, remove}
use Rattle.std.proofs.lemmas.Result.{err_from_is_err_and}
use Rattle.read_ranges.specs.Numbers.{range, greatest}
use Rattle.read_ranges.proofs.Edits.{Unmarks, ends_from, ends_within, unmark_end, unmark_absent, unmark_whole}
use Rattle.read_ranges.proofs.Edits.{unmark_first, unmark_last, unmark_middle, one_more_split}
use Rattle.read_ranges.proofs.edit.unmark.Goals as goal
use Rattle.read_ranges.proofs.edit.unmark.Goals.{In-Some, Then-first-last, Then-first-n-2, Then-last-n, Else-last-n}

-- the range at the place ends at n or above, and within bounds
reaches : (c : In-Some) → (c.args.n ≤ c.in-Some.field-0.now.last) × (c.in-Some.field-0.now.last ≤ greatest)
reaches c =
    let place = rw c.as_slice-ranges.ensures at c.place_of-at.ensures in
    let found = rw c.as_slice-ranges.ensures at c.in-Some.ensures.lookup in (
      ends_from _ c.requires.ranges _ _ found.3.0 found.1 _ place,
      ends_within _ c.requires.ranges _ _ found.3.0
          found.1 _ place,
    )

pub overflow_add-n : goal.overflow_add-n
overflow_add-n c = let end = reaches (goal.at.overflow_add-n c).In-Some in omega (arith, end)

pub overflow_add-above : goal.overflow_add-above
overflow_add-above c = let end = reaches (goal.at.overflow_add-above c).In-Some in omega (arith, end)

-- n is inside the range at the place
middle : (c : Else-last-n) → Unmarks c.args.kept.now.items
    (set (insert c.args.kept.now.items (c.place_of-at.result + 1) (range (c.args.n + 1) c.in-Some.field-0.now.last))
    c.place_of-at.result (range c.in-Some.field-0.now.first (c.args.n - 1))) c.args.n
middle c =
    let place = rw c.as_slice-ranges.ensures at c.place_of-at.ensures in
    let found = rw c.as_slice-ranges.ensures at c.in-Some.ensures.lookup in
    let reach = ends_from _ c.requires.ranges _ _ found.3.0 found.1 _ place in
    unmark_middle _ c.requires.ranges _ _ found.3.0 found.1 _ place (omega arith) (omega (arith, reach))

pub returns-in_err-insert-in-Some-clause-full : goal.returns-in_err-insert-in-Some-clause-full
returns-in_err-insert-in-Some-clause-full c =
    let found = rw c.as_slice-ranges.ensures at c.in-Some.ensures.lookup in
    let unmarked = middle (goal.at.returns-in_err-insert-in-Some-clause-full c).Else-last-n in
    let within : c.place_of-at.result + 1 ≤ length c.args.kept.now.items = omega (arith, found.3.0) in
    let more = one_more_split _ _ _ _ _ _ within unmarked.ranges unmarked.numbers in
    let error = err_from_is_err_and c.from_residual.result c.from_residual.ensures.1 in
    rw error.1 (omega (arith, more, c.in_err-insert-in-Some.ensures.full))

pub returns-in_ok-insert-in-Some-clause-ranges : goal.returns-in_ok-insert-in-Some-clause-ranges
returns-in_ok-insert-in-Some-clause-ranges c =
    rw (c.write-else-last-n.ensures.items, c.in_ok-insert-in-Some.ensures.ok)
    (middle (goal.at.returns-in_ok-insert-in-Some-clause-ranges c).Else-last-n).ranges

pub returns-in_ok-insert-in-Some-clause-ok : goal.returns-in_ok-insert-in-Some-clause-ok
returns-in_ok-insert-in-Some-clause-ok c =
    rw (c.write-else-last-n.ensures.items, c.in_ok-insert-in-Some.ensures.ok)
    (middle (goal.at.returns-in_ok-insert-in-Some-clause-ok c).Else-last-n).numbers

-- n is all of it
whole : (c : Then-first-last) → Unmarks c.args.kept.now.items (remove c.args.kept.now.items c.place_of-at.result)
    c.args.n
whole c =
    let place = rw c.as_slice-ranges.ensures at c.place_of-at.ensures in
    let found = rw c.as_slice-ranges.ensures at c.in-Some.ensures.lookup in
    let reach = ends_from _ c.requires.ranges _ _ found.3.0 found.1 _ place in
    unmark_whole _ c.requires.ranges _ _ found.3.0 found.1 _ place (omega (arith, reach)) (omega (arith, reach))

pub returns-then-first-last-clause-ranges : goal.returns-then-first-last-clause-ranges
returns-then-first-last-clause-ranges c = rw c.remove.ensures.items
    (whole (goal.at.returns-then-first-last-clause-ranges c).Then-first-last).ranges

pub returns-then-first-last-clause-ok : goal.returns-then-first-last-clause-ok
returns-then-first-last-clause-ok c = rw c.remove.ensures.items
    (whole (goal.at.returns-then-first-last-clause-ok c).Then-first-last).numbers

-- n begins it
first : (c : Then-first-n-2) → Unmarks c.args.kept.now.items
    (set c.args.kept.now.items c.place_of-at.result (range (c.args.n + 1) c.in-Some.field-0.now.last)) c.args.n
first c =
    let place = rw c.as_slice-ranges.ensures at c.place_of-at.ensures in
    let found = rw c.as_slice-ranges.ensures at c.in-Some.ensures.lookup in
    let reach = ends_from _ c.requires.ranges _ _ found.3.0 found.1 _ place in
    unmark_first _ c.requires.ranges _ _ found.3.0 found.1 _ place (omega arith) (omega (arith, reach))

pub returns-then-first-n-2-clause-ranges : goal.returns-then-first-n-2-clause-ranges
returns-then-first-n-2-clause-ranges c = rw c.write.ensures.items
    (first (goal.at.returns-then-first-n-2-clause-ranges c).Then-first-n-2).ranges

pub returns-then-first-n-2-clause-ok : goal.returns-then-first-n-2-clause-ok
returns-then-first-n-2-clause-ok c = rw c.write.ensures.items
    (first (goal.at.returns-then-first-n-2-clause-ok c).Then-first-n-2).numbers

-- n ends it
last : (c : Then-last-n) → Unmarks c.args.kept.now.items
    (set c.args.kept.now.items c.place_of-at.result (range c.in-Some.field-0.now.first (c.args.n - 1))) c.args.n
last c =
    let place = rw c.as_slice-ranges.ensures at c.place_of-at.ensures in
    let found = rw c.as_slice-ranges.ensures at c.in-Some.ensures.lookup in
    unmark_last _ c.requires.ranges _ _ found.3.0 found.1 _ place (omega arith) (omega arith)

pub returns-then-last-n-clause-ranges : goal.returns-then-last-n-clause-ranges
returns-then-last-n-clause-ranges c = rw c.write-then-last-n.ensures.items
    (last (goal.at.returns-then-last-n-clause-ranges c).Then-last-n).ranges

pub returns-then-last-n-clause-ok : goal.returns-then-last-n-clause-ok
returns-then-last-n-clause-ok c = rw c.write-then-last-n.ensures.items
    (last (goal.at.returns-then-last-n-clause-ok c).Then-last-n).numbers

-- n is in no range
pub returns-in_default-clause-ok : goal.returns-in_default-clause-ok
returns-in_default-clause-ok c =
    let place = rw c.as_slice-ranges.ensures at c.place_of-at.ensures in
    let found = rw c.as_slice-ranges.ensures at c.in-Some.ensures.lookup in
    (unmark_absent _ c.requires.ranges _ _ found.3.0 found.1 _ place (omega arith)).numbers

pub returns-in_default-2-clause-ok : goal.returns-in_default-2-clause-ok
returns-in_default-2-clause-ok c =
    let place = rw c.as_slice-ranges.ensures at c.place_of-at.ensures in
    let missing = rw (c.in_default.is, c.as_slice-ranges.ensures) at c.get.ensures.lookup in
    (unmark_end _ c.requires.ranges _ _ place missing.3).numbers
