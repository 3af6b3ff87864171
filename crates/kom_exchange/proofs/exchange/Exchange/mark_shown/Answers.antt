use Rattle.kom_exchange.proofs.Marking.{kept_marked}
use Rattle.kom_exchange.proofs.exchange.Exchange.mark_shown.Goals as goal

pub invariant_of-self : goal.invariant_of-self
invariant_of-self g c = kept_marked c.self.invariant c.mark_shown.ensures
