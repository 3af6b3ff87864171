use Rattle.std.proofs.Common.{ap, ◌∙◌}
use Rattle.std.specs.Str.{chars}
use Rattle.kom_exchange.proofs.Proceeding.{proceeds_shown}
use Rattle.kom_exchange.proofs.Showing.{adds_taken}
use Rattle.kom_exchange.proofs.contacts.Contacts.show_line.Goals as goal

pub returns-in_err-take-clause-proceeds : goal.returns-in_err-take-clause-proceeds
returns-in_err-take-clause-proceeds g c = proceeds_shown _ _ _ _ c.take.ensures.grows c.take.ensures.columns

pub returns-clause-adds : goal.returns-clause-adds
returns-clause-adds g c =
    adds_taken c.in_ok-take.ensures.shows c.take.ensures.columns
    (ap chars c.as_str-2.ensures.value ∙ c.in_ok-line.ensures.letters)

pub returns-clause-proceeds : goal.returns-clause-proceeds
returns-clause-proceeds g c = proceeds_shown _ _ _ _ c.take.ensures.grows c.take.ensures.columns
