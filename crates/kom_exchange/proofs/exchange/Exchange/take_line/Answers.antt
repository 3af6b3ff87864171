use Rattle.kom_exchange.proofs.Keeping.{kept_keys, kept_typed}
use Rattle.kom_exchange.proofs.exchange.Exchange.take_line.Goals as goal

pub invariant_of-self : goal.invariant_of-self
invariant_of-self g c = kept_keys c.self.invariant c.line.ensures.same

pub invariant_of-self-in-Some : goal.invariant_of-self-in-Some
invariant_of-self-in-Some g c =
    kept_typed c.self.invariant c.line.ensures.same c.typed.ensures c.of.ensures
    (rw c.in-Some.is at c.in_ok-line.ensures.typed)

pub invariant_of-self-in-None : goal.invariant_of-self-in-None
invariant_of-self-in-None g c = kept_keys c.self.invariant c.line.ensures.same
