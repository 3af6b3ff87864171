use Rattle.sessions.proofs.AcceptingLists.{Reserved}
use Rattle.sessions.proofs.accepting.Accepting.reserve.Given as goal

abbrev pub invariant-loop-message : goal.invariant-loop-message
invariant-loop-message l = Reserved l.fn.self.lists l.self.lists l.sessions l.message
