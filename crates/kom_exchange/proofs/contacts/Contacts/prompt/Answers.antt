use Rattle.kom_exchange.proofs.Proceeding.{proceeds_shown}
use Rattle.kom_exchange.proofs.Showing.{adds_prompt}
use Rattle.kom_exchange.proofs.contacts.Contacts.prompt.Goals as goal

pub returns-in_err-prompt-clause-proceeds : goal.returns-in_err-prompt-clause-proceeds
returns-in_err-prompt-clause-proceeds g c = proceeds_shown _ _ _ _ c.prompt.ensures.grows c.prompt.ensures.columns

pub returns-clause-adds : goal.returns-clause-adds
returns-clause-adds g c = adds_prompt _ _ _ c.in_ok-prompt.ensures.shows c.prompt.ensures.columns

pub returns-clause-proceeds : goal.returns-clause-proceeds
returns-clause-proceeds g c = proceeds_shown _ _ _ _ c.prompt.ensures.grows c.prompt.ensures.columns
