use Rattle.kom_exchange.proofs.Splitting.{split_fed}
use Rattle.kom_exchange.proofs.server.Server.hear_more.Goals as goal

pub invariant_of-self : goal.invariant_of-self
invariant_of-self g c =
    split_fed c.self.inside.splitter c.feed.new.splitter c.self.inside.has_fault c.feed.new.has_fault
    c.self.inside.requests.link c.read.new.self.link c.read.new.buffer.bytes.items c.first.result.now
    c.in-Some.count c.if-self.false c.self.invariant c.in-Some.ensures.reads c.first.ensures c.feed.ensures
