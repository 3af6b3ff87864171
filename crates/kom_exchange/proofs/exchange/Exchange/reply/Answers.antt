use Rattle.kom_exchange.proofs.Keeping.{kept_heard}
use Rattle.kom_exchange.proofs.exchange.Exchange.reply.Goals as goal

pub invariant_of-self : goal.invariant_of-self
invariant_of-self g c = kept_heard c.self.invariant c.reply.ensures.hears

pub invariant_of-self-2 : goal.invariant_of-self-2
invariant_of-self-2 g c = kept_heard c.self.invariant c.reply.ensures.hears
