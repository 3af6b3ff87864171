use Rattle.kom_exchange.proofs.Keeping.{kept_proceeded, kept_shown}
use Rattle.kom_exchange.proofs.exchange.Exchange.show_told.Goals as goal

pub invariant_of-self : goal.invariant_of-self
invariant_of-self g c = kept_proceeded c.self.invariant c.show_told.ensures.proceeds

pub invariant_of-self-2 : goal.invariant_of-self-2
invariant_of-self-2 g c = kept_shown c.self.invariant c.show_told.ensures.proceeds c.in_ok-pace.ensures.page
