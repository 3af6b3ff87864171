use Rattle.kom_journal.proofs.Short.{short_of_fits}
use Rattle.kom_journal.proofs.Spelled.{effects_again}
use Rattle.kom_journal.proofs.laws.effects_are_kept.Goals as goal

pub returns : goal.returns
returns c = record { again = effects_again; short = short_of_fits }
