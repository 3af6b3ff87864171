-- The screen has as many columns as before, and fewer bytes are left each time.
use Rattle.std.proofs.Common.{◌≡◌, length}
use Rattle.kom_visit.proofs.visitor.Visitor.show_lines.Given as goal

abbrev pub invariant-lines : goal.invariant-lines
invariant-lines g l = l.self.exchange.columns ≡ l.fn.self.exchange.columns

abbrev pub decreases-lines : goal.decreases-lines
decreases-lines g l = length l.rest
