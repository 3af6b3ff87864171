use Rattle.std.proofs.Common.{arith}
use Rattle.query_calls.proofs.Memberships.{ranges_few}
use Rattle.query_calls.proofs.on_memberships.ranges_of.Goals as goal

pub returns-in-Some-clause-few : goal.returns-in-Some-clause-few
returns-in-Some-clause-few c =
    omega (arith, ranges_few 1 c.ranges-in-Some.result.now c.ranges-in-Some.ensures.rising)
