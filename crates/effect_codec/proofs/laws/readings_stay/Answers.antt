use Rattle.effect_codec.proofs.GoesOn.{goes_on}
use Rattle.effect_codec.proofs.Spellings.{is_spelled}
use Rattle.effect_codec.proofs.Stays.{stays_short, stays_wrong}
use Rattle.effect_codec.proofs.laws.readings_stay.Goals as goal

pub returns-clause-stays_short : goal.returns-clause-stays_short
returns-clause-stays_short c = stays_short

pub returns-clause-is_spelled : goal.returns-clause-is_spelled
returns-clause-is_spelled c = is_spelled

pub returns-clause-goes_on : goal.returns-clause-goes_on
returns-clause-goes_on c = goes_on

pub returns-clause-stays_wrong : goal.returns-clause-stays_wrong
returns-clause-stays_wrong c = stays_wrong
