use Rattle.kom_exchange.proofs.Keeping.{kept_server}
use Rattle.kom_exchange.proofs.exchange.Exchange.message.Goals as goal

pub invariant_of-self : goal.invariant_of-self
invariant_of-self g c = kept_server c.self.invariant c.message.ensures
