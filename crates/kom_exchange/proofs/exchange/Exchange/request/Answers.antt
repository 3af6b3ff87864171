use Rattle.kom_exchange.proofs.Keeping.{kept_served}
use Rattle.kom_exchange.proofs.exchange.Exchange.request.Goals as goal

pub invariant_of-self : goal.invariant_of-self
invariant_of-self g c = kept_served c.self.invariant c.request.ensures
