-- The lines so far were shown, with those to come, and the rest gets shorter.
use Rattle.std.proofs.Common.{length}
use Rattle.kom_exchange.specs.Fair.{Proceeds}
use Rattle.kom_exchange.proofs.Showing.{ShowsBut}
use Rattle.kom_exchange.proofs.contacts.Contacts.show_body.Given as goal

abbrev pub invariant-lines : goal.invariant-lines
invariant-lines g l = record {
  shows : ShowsBut l.charset l.body l.rest l.fn.self.screen l.self.screen;
  proceeds : Proceeds l.fn.self.keys l.fn.self.server l.fn.self.screen l.self.keys l.self.server l.self.screen;
}

abbrev pub decreases-lines : goal.decreases-lines
decreases-lines g l = length l.rest
