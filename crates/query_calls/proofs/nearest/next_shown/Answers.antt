use Rattle.std.proofs.Common.{sym, ◌∙◌, arith}
use Rattle.query_calls.proofs.NextShown.{next_found, next_none}
use Rattle.query_calls.proofs.nearest.next_shown.Goals as goal

pub returns-then-shows : goal.returns-then-shows
returns-then-shows c =
    next_found c.args.asked.now c.args.start c.end_of-number-end.result c.args.wanted c.loop-number.number
    (rw c.rows-rows.ensures at c.end_of-number-end.ensures) (omega arith)
    (rw (c.rows-rows.ensures, c.caller-caller.ensures) at (sym c.shows.ensures ∙ c.if-shows.true))
    (λ k above under. rw (c.rows-rows.ensures, c.caller-caller.ensures) at (c.loop-number.invariant k above under))

pub returns : goal.returns
returns c =
    next_none c.args.asked.now c.args.start c.end_of-number-end.result c.args.wanted
    (rw c.rows-rows.ensures at c.end_of-number-end.ensures)
    (λ k above under. rw (c.rows-rows.ensures, c.caller-caller.ensures) at
    (c.loop-number.invariant k above (omega arith)))
