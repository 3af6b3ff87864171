use Rattle.kom_exchange.proofs.Keeping.{marked_was_shown}
use Rattle.kom_exchange.proofs.exchange.Exchange.end.Goals as goal

pub returns-clause-marked : goal.returns-clause-marked
returns-clause-marked g c =
    marked_was_shown c.self.invariant c.assured.ensures c.end-ended.ensures.keys c.end-ended.ensures.link
    c.end-ended.ensures.sink
