use Rattle.noninterference.proofs.steps.Calls.{calls-erased}
use Rattle.noninterference.proofs.unwinding.calls_stand_erased.Goals as goal

pub returns : goal.returns
returns c = calls-erased
