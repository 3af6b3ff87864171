use Rattle.std.proofs.Common.{◌∙◌}
use Rattle.kom_telling.proofs.Found.{few-ranges}
use Rattle.kom_telling.proofs.on_memberships.ranges_of.Goals as goal

pub returns-in-Some-clause-ranges : goal.returns-in-Some-clause-ranges
returns-in-Some-clause-ranges c = c.ranges-told.ensures.ranges ∙ c.in-Some.ensures.ranges

pub returns-in-Some-clause-few : goal.returns-in-Some-clause-few
returns-in-Some-clause-few c = few-ranges c.ranges-told.result.now c.ranges-told.ensures.rising
