use Rattle.kom_exchange.proofs.Splitting.{split_taken}
use Rattle.kom_exchange.proofs.server.Server.take_unit.Goals as goal

pub invariant_of-self : goal.invariant_of-self
invariant_of-self g c =
    split_taken c.self.inside.splitter c.next_unit.new.self c.self.inside.has_fault
    c.self.inside.requests.link.taken c.next_unit.result c.self.invariant c.next_unit.ensures.at
