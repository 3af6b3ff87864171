-- The screen has as many columns as before.
use Rattle.std.proofs.Common.{◌≡◌}
use Rattle.kom_visit.proofs.visitor.Visitor.skip_level.Given as goal

abbrev pub invariant-loop-together : goal.invariant-loop-together
invariant-loop-together g l = l.self.exchange.columns ≡ l.fn.self.exchange.columns

abbrev pub invariant-loop-asked : goal.invariant-loop-asked
invariant-loop-asked g l = l.self.exchange.columns ≡ l.fn.self.exchange.columns
