use Rattle.kom_exchange.proofs.Keeping.{kept_served}
use Rattle.kom_exchange.proofs.exchange.Exchange.ask.Goals as goal

pub invariant_of-self : goal.invariant_of-self
invariant_of-self g c = kept_served c.self.invariant c.ask.ensures.goes

pub invariant_of-self-2 : goal.invariant_of-self-2
invariant_of-self-2 g c = kept_served c.self.invariant c.ask.ensures.goes
