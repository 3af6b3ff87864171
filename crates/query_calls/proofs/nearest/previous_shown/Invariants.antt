use Rattle.std.proofs.Common.{◌≡◌, ℕ, ◌<◌, ◌≤◌, false}
use Rattle.query_calls.specs.Nearest.{shows}
use Rattle.query_calls.proofs.nearest.previous_shown.Given as goal

abbrev pub invariant-loop-number : goal.invariant-loop-number
invariant-loop-number l =
    (k : ℕ) → l.number ≤ k → k < l.initial.number → shows l.rows.db l.caller l.wanted k ≡ false
