use Rattle.core_tests.proofs.Fresh.{none_made}
use Rattle.core_tests.proofs.tried.Tried.new.Goals as goal

pub invariant_of-result : goal.invariant_of-result
invariant_of-result c = record { counted = none_made _ _ _ c.in_ok-core.ensures.value }
