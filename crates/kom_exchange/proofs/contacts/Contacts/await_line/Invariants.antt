-- Nothing is shown while keys are awaited.
use Rattle.std.proofs.Common.{◌≡◌}
use Rattle.kom_exchange.specs.Fair.{Proceeds}
use Rattle.kom_exchange.proofs.contacts.Contacts.await_line.Given as goal

abbrev pub invariant-loop : goal.invariant-loop
invariant-loop g l = record {
  can : (goal.iterator-loop g).can_next l.iterator';
  finite : (goal.iterator-loop g).is_finite l.iterator';
  proceeds : Proceeds l.fn.self.keys l.fn.self.server l.fn.self.screen l.self.keys l.self.server l.self.screen;
  screen : l.self.screen ≡ l.fn.self.screen;
}
