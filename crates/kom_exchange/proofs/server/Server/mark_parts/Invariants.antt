-- Only texts in these places were to count as read.
use Rattle.kom_exchange.specs.Goes.{Marks}
use Rattle.kom_exchange.proofs.server.Server.mark_parts.Given as goal

abbrev pub invariant-loop-part : goal.invariant-loop-part
invariant-loop-part g l = Marks l.parts l.fn.self l.self
