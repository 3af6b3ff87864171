use Rattle.sessions.proofs.AcceptingLists.{Changed}
use Rattle.sessions.proofs.accepting.Accepting.change.Given as goal

abbrev pub invariant-loop-message : goal.invariant-loop-message
invariant-loop-message l = Changed l.fn.self.lists l.self.lists l.session l.was l.is l.message
