use Rattle.kom_exchange.proofs.Proceeding.{proceeds_typed}
use Rattle.kom_exchange.proofs.contacts.Contacts.take_keys.Goals as goal

pub returns-clause-proceeds : goal.returns-clause-proceeds
returns-clause-proceeds g c = proceeds_typed _ _ _ _ c.listen.ensures
