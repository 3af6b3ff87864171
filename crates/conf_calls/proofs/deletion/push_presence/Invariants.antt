use Rattle.std.proofs.Common.{◌≡◌, ◌++◌, drop}
use Rattle.conf_calls.proofs.Leaving.{presence}
use Rattle.conf_calls.proofs.deletion.push_presence.Given as goal

-- with those of the sessions to come, the effects are as they will be
abbrev pub invariant-loop-place : goal.invariant-loop-place
invariant-loop-place l =
    l.effects ++ presence l.asked l.person (drop l.place l.asked.seats)
    ≡ l.fn.effects ++ presence l.asked l.person l.asked.seats
