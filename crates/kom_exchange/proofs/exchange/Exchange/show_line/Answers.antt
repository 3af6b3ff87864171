use Rattle.kom_exchange.proofs.Keeping.{kept_proceeded}
use Rattle.kom_exchange.proofs.exchange.Exchange.show_line.Goals as goal

pub invariant_of-self : goal.invariant_of-self
invariant_of-self g c = kept_proceeded c.self.invariant c.show_line.ensures.proceeds
