use Rattle.kom_exchange.proofs.Proceeding.{proceeds_heard}
use Rattle.kom_exchange.proofs.contacts.Contacts.hear.Goals as goal

pub returns-clause-proceeds : goal.returns-clause-proceeds
returns-clause-proceeds g c = proceeds_heard _ _ _ _ c.listen.ensures
