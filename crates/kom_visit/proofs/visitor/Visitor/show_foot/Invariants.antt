-- The screen has as many columns as before.
use Rattle.std.proofs.Common.{◌≡◌}
use Rattle.kom_visit.proofs.visitor.Visitor.show_foot.Given as goal

abbrev pub invariant-loop-link : goal.invariant-loop-link
invariant-loop-link g l = l.self.exchange.columns ≡ l.fn.self.exchange.columns
