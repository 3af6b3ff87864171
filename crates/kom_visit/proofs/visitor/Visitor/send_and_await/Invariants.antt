-- The screen has as many columns as before.
use Rattle.std.proofs.Common.{◌≡◌}
use Rattle.kom_visit.proofs.visitor.Visitor.send_and_await.Given as goal

abbrev pub invariant-loop : goal.invariant-loop
invariant-loop g l = l.self.exchange.columns ≡ l.fn.self.exchange.columns
