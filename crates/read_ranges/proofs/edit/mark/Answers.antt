use Rattle.std.proofs.Common.{set, arith}
use Rattle.std.specs.List.{insert}
use Rattle.read_ranges.specs.Numbers.{range}
use Rattle.read_ranges.specs.Places.{Marks}
use Rattle.read_ranges.proofs.Edits.{mark_end, mark_alone, mark_before, mark_held, one_more, rise_inserted}
use Rattle.read_ranges.proofs.Edits.{set_inserted, full_inserted}
use Rattle.read_ranges.proofs.edit.mark.Goals as goal
use Rattle.read_ranges.proofs.edit.mark.Goals.{In_default, Then-saturating_sub-gt1, Then-n-first}

-- past all ranges
past_all : (c : In_default) → Marks c.args.kept.now.items
    (insert c.args.kept.now.items c.place_of-at.result (range c.args.n c.args.n)) c.args.n
past_all c =
    let place = rw c.as_slice-ranges.ensures at c.place_of-at.ensures in
    let missing = rw (c.in_default.is, c.as_slice-ranges.ensures) at c.get.ensures.lookup in
    mark_end _ c.requires.ranges _ _ c.requires.number (omega arith) place missing.3

pub returns-in_default-clause-ranges : goal.returns-in_default-clause-ranges
returns-in_default-clause-ranges c = rise_inserted _ _ _ _ c.requires.ranges
    (past_all (goal.at.returns-in_default-clause-ranges c).In_default).ranges c.insert.ensures.ok c.insert.ensures.err

pub returns-in_default-clause-ok : goal.returns-in_default-clause-ok
returns-in_default-clause-ok c = set_inserted _ _ _ _
    (past_all (goal.at.returns-in_default-clause-ok c).In_default).numbers c.insert.ensures.ok

pub returns-in_default-clause-full : goal.returns-in_default-clause-full
returns-in_default-clause-full c =
    let marked = past_all (goal.at.returns-in_default-clause-full c).In_default in
    let place = rw c.as_slice-ranges.ensures at c.place_of-at.ensures in
    let more = one_more _ _ _ _ place.within marked.ranges marked.numbers in
    full_inserted _ _ _ _ more c.insert.ensures.full

-- before the range at the place
before : (c : Then-saturating_sub-gt1) → Marks c.args.kept.now.items
    (insert c.args.kept.now.items c.place_of-at.result (range c.args.n c.args.n)) c.args.n
before c =
    let place = rw c.as_slice-ranges.ensures at c.place_of-at.ensures in
    let found = rw c.as_slice-ranges.ensures at c.in-Some.ensures.lookup in
    mark_alone _ c.requires.ranges _ _ found.3.0 found.1 _ c.requires.number place (omega arith)

pub returns-then-saturating_sub-gt1-clause-ranges : goal.returns-then-saturating_sub-gt1-clause-ranges
returns-then-saturating_sub-gt1-clause-ranges c =
    rise_inserted _ _ _ _ c.requires.ranges (before
    (goal.at.returns-then-saturating_sub-gt1-clause-ranges c).Then-saturating_sub-gt1).ranges
    c.insert-then-saturating_sub-gt1.ensures.ok c.insert-then-saturating_sub-gt1.ensures.err

pub returns-then-saturating_sub-gt1-clause-ok : goal.returns-then-saturating_sub-gt1-clause-ok
returns-then-saturating_sub-gt1-clause-ok c =
    set_inserted _ _ _ _ (before (goal.at.returns-then-saturating_sub-gt1-clause-ok
    c).Then-saturating_sub-gt1).numbers c.insert-then-saturating_sub-gt1.ensures.ok

pub returns-then-saturating_sub-gt1-clause-full : goal.returns-then-saturating_sub-gt1-clause-full
returns-then-saturating_sub-gt1-clause-full c =
    let marked = before (goal.at.returns-then-saturating_sub-gt1-clause-full c).Then-saturating_sub-gt1 in
    let place = rw c.as_slice-ranges.ensures at c.place_of-at.ensures in
    let more = one_more _ _ _ _ place.within marked.ranges marked.numbers in
    full_inserted _ _ _ _ more c.insert-then-saturating_sub-gt1.ensures.full

-- right before the range at the place
lower : (c : Then-n-first) → Marks c.args.kept.now.items
    (set c.args.kept.now.items c.place_of-at.result (range c.args.n c.in-Some.field-0.now.last)) c.args.n
lower c =
    let place = rw c.as_slice-ranges.ensures at c.place_of-at.ensures in
    let found = rw c.as_slice-ranges.ensures at c.in-Some.ensures.lookup in
    mark_before _ c.requires.ranges _ _ found.3.0 found.1 _ c.requires.number place (omega arith)

pub returns-then-n-first-clause-ranges : goal.returns-then-n-first-clause-ranges
returns-then-n-first-clause-ranges c = rw c.write.ensures.items
    (lower (goal.at.returns-then-n-first-clause-ranges c).Then-n-first).ranges

pub returns-then-n-first-clause-ok : goal.returns-then-n-first-clause-ok
returns-then-n-first-clause-ok c = rw c.write.ensures.items
    (lower (goal.at.returns-then-n-first-clause-ok c).Then-n-first).numbers

pub returns-else-last-n-clause-ok : goal.returns-else-last-n-clause-ok
returns-else-last-n-clause-ok c =
    let place = rw c.as_slice-ranges.ensures at c.place_of-at.ensures in
    let found = rw c.as_slice-ranges.ensures at c.in-Some.ensures.lookup in
    (mark_held _ c.requires.ranges _ _ found.3.0 found.1 c.args.n (omega arith) (omega arith)).numbers
