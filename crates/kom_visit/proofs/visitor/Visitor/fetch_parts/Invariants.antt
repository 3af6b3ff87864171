-- The screen has as many columns as before.
use Rattle.std.proofs.Common.{◌≡◌}
use Rattle.kom_visit.proofs.visitor.Visitor.fetch_parts.Given as goal

abbrev pub invariant-loop-together : goal.invariant-loop-together
invariant-loop-together g l = l.self.exchange.columns ≡ l.fn.self.exchange.columns
