-- It is the same call.
use Rattle.std.proofs.Common.{◌≡◌}
use Rattle.kom_visit.proofs.entering.messages_request.Given as goal

abbrev pub invariant-loop-number : goal.invariant-loop-number
invariant-loop-number l = l.request.call ≡ 80
