-- What is asked and heard is as it was.
use Rattle.std.proofs.Common.{◌≡◌}
use Rattle.kom_exchange.proofs.server.Server.hold_all.Given as goal

abbrev pub invariant-loop : goal.invariant-loop
invariant-loop g l = l.self ≡ l.fn.self
