use Rattle.kom_exchange.proofs.Proceeding.{proceeds_keys}
use Rattle.kom_exchange.proofs.contacts.Contacts.typed_line.Goals as goal

pub returns-in_err-line-clause-proceeds : goal.returns-in_err-line-clause-proceeds
returns-in_err-line-clause-proceeds g c = proceeds_keys _ _ _ _ c.line.ensures.same

pub returns-clause-proceeds : goal.returns-clause-proceeds
returns-clause-proceeds g c = proceeds_keys _ _ _ _ c.line.ensures.same
