use Rattle.std.proofs.Common.{rules}
use Rattle.kom_exchange.proofs.Keeping.{kept_entered, kept_refused}
use Rattle.kom_exchange.proofs.exchange.Exchange.log_in_with.Goals as goal

pub invariant_of-self : goal.invariant_of-self
invariant_of-self g c = kept_refused c.self.invariant c.typed.ensures c.log_in.ensures.goes

pub invariant_of-self-then-not-is_in : goal.invariant_of-self-then-not-is_in
invariant_of-self-then-not-is_in g c = kept_refused c.self.invariant c.typed.ensures c.log_in.ensures.goes

pub invariant_of-self-2 : goal.invariant_of-self-2
invariant_of-self-2 g c =
    kept_entered c.self.invariant c.typed.ensures c.log_in.ensures.goes c.in_ok-is_in.ensures.logged (search rules)
