-- The screen has as many columns as before.
use Rattle.std.proofs.Common.{◌≡◌}
use Rattle.kom_visit.proofs.visitor.Visitor.ask_authors.Given as goal

abbrev pub invariant-loop-asked : goal.invariant-loop-asked
invariant-loop-asked g l = l.self.exchange.columns ≡ l.fn.self.exchange.columns
