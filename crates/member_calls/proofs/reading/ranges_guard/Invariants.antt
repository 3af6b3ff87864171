use Rattle.std.proofs.Common.{◌≡◌}
use Rattle.member_calls.proofs.RangeGuards.{refused_from}
use Rattle.member_calls.proofs.reading.ranges_guard.Given as goal

abbrev pub invariant-loop-place : goal.invariant-loop-place
invariant-loop-place l = refused_from l.highest l.ranges 0 0 ≡ refused_from l.highest l.ranges l.place l.end
