use Rattle.kom_exchange.proofs.Proceeding.{proceeds_shown}
use Rattle.kom_exchange.proofs.contacts.Contacts.line.Goals as goal

pub returns-in_err-line : goal.returns-in_err-line
returns-in_err-line g c = record { proceeds = proceeds_shown _ _ _ _ c.line.ensures.grows c.line.ensures.columns }

pub returns : goal.returns
returns g c = record { proceeds = proceeds_shown _ _ _ _ c.line.ensures.grows c.line.ensures.columns }
