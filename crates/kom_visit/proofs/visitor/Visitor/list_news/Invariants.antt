-- The screen has as many columns as before.
use Rattle.std.proofs.Common.{◌≡◌}
use Rattle.kom_visit.proofs.visitor.Visitor.list_news.Given as goal

abbrev pub invariant-loop-conference : goal.invariant-loop-conference
invariant-loop-conference g l = l.self.exchange.columns ≡ l.fn.self.exchange.columns
