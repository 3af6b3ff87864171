-- It is the same call.
use Rattle.std.proofs.Common.{◌≡◌}
use Rattle.kom_visit.proofs.writing.put_links.Given as goal

abbrev pub invariant-loop-link : goal.invariant-loop-link
invariant-loop-link l = l.request.call ≡ l.fn.request.call
