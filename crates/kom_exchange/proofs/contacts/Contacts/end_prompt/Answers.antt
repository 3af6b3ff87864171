use Rattle.kom_exchange.proofs.Proceeding.{proceeds_ended}
use Rattle.kom_exchange.proofs.contacts.Contacts.end_prompt.Goals as goal

pub returns-clause-proceeds : goal.returns-clause-proceeds
returns-clause-proceeds g c = proceeds_ended _ _ _ _ c.typed.ensures
