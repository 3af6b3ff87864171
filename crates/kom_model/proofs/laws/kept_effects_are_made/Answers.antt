use Rattle.kom_model.proofs.Kept.{kept_fits, kept_makes, fitting-all}
use Rattle.kom_model.proofs.laws.kept_effects_are_made.Goals as goal

pub returns-clause-fits : goal.returns-clause-fits
returns-clause-fits c = kept_fits

pub returns-clause-makes : goal.returns-clause-makes
returns-clause-makes c = kept_makes

pub returns-clause-all : goal.returns-clause-all
returns-clause-all c = fitting-all
