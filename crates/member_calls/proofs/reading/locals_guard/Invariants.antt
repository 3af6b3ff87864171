use Rattle.std.proofs.Common.{◌≡◌}
use Rattle.member_calls.proofs.LocalGuards.{refused_from}
use Rattle.member_calls.proofs.reading.locals_guard.Given as goal

abbrev pub invariant-loop-place : goal.invariant-loop-place
invariant-loop-place l = refused_from l.highest l.locals 0 ≡ refused_from l.highest l.locals l.place
