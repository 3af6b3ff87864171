use Rattle.std.proofs.Common.{refl}
use Rattle.kom_exchange.proofs.Keeping.{kept_told, kept_untold}
use Rattle.kom_exchange.proofs.exchange.Exchange.fetch.Goals as goal

pub invariant_of-self : goal.invariant_of-self
invariant_of-self g c = kept_untold c.self.invariant c.fetch_text.ensures.goes

pub invariant_of-self-2 : goal.invariant_of-self-2
invariant_of-self-2 g c = kept_told c.self.invariant c.fetch_text.ensures.goes refl c.in_ok-found.ensures.told
