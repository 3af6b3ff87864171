use Rattle.kom_exchange.proofs.Proceeding.{proceeds_then}
use Rattle.kom_exchange.proofs.contacts.Contacts.wait.Goals as goal

pub returns-clause-proceeds : goal.returns-clause-proceeds
returns-clause-proceeds g c = proceeds_then c.hear.ensures.proceeds c.take_keys.ensures.proceeds
