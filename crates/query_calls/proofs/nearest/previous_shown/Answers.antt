use Rattle.std.proofs.Common.{◌-◌, sym, ◌∙◌, arith}
use Rattle.query_calls.proofs.NextShown.{previous_found, previous_none}
use Rattle.query_calls.proofs.nearest.previous_shown.Goals as goal

pub returns-then-shows : goal.returns-then-shows
returns-then-shows c =
    previous_found c.args.asked.now c.args.start c.end_of.result c.args.wanted (c.loop-number.number - 1)
    (rw c.rows-rows.ensures at c.end_of.ensures) (omega arith)
    (rw (c.rows-rows.ensures, c.caller-caller.ensures) at (sym c.shows.ensures ∙ c.if-shows.true))
    (λ k above low under. rw (c.rows-rows.ensures, c.caller-caller.ensures) at
    (c.loop-number.invariant k (omega arith) (omega arith)))

pub returns : goal.returns
returns c =
    previous_none c.args.asked.now c.args.start c.end_of.result c.args.wanted
    (rw c.rows-rows.ensures at c.end_of.ensures)
    (λ k low under. rw (c.rows-rows.ensures, c.caller-caller.ensures) at
    (c.loop-number.invariant k (omega arith) (omega arith)))
