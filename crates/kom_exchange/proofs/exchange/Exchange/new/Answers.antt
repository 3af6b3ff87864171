use Rattle.std.proofs.Common.{refl}
use Rattle.kom_exchange.proofs.Keeping.{kept_new}
use Rattle.kom_exchange.proofs.exchange.Exchange.new.Goals as goal

pub invariant_of-result : goal.invariant_of-result
invariant_of-result g c = kept_new _ _ _ _ _ _ _ c.in_ok-server.ensures.asked refl refl refl
