use Rattle.kom_exchange.proofs.Keeping.{kept_heard}
use Rattle.kom_exchange.proofs.Marking.{kept_own}
use Rattle.kom_exchange.proofs.exchange.Exchange.mark_own.Goals as goal

pub invariant_of-self : goal.invariant_of-self
invariant_of-self g c = kept_heard c.self.invariant c.text_stat.ensures.hears

pub invariant_of-self-in_err-count-in-Some : goal.invariant_of-self-in_err-count-in-Some
invariant_of-self-in_err-count-in-Some g c =
    kept_own c.self.invariant c.text_stat.ensures.hears (rw c.in-Some.is at c.in_ok-stat.ensures.told)
    c.mark_own.ensures

pub invariant_of-self-in-Some : goal.invariant_of-self-in-Some
invariant_of-self-in-Some g c =
    kept_own c.self.invariant c.text_stat.ensures.hears (rw c.in-Some.is at c.in_ok-stat.ensures.told)
    c.mark_own.ensures

pub invariant_of-self-in-None : goal.invariant_of-self-in-None
invariant_of-self-in-None g c = kept_heard c.self.invariant c.text_stat.ensures.hears
