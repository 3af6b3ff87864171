use Rattle.noninterference.proofs.respect.Calls.{calls-vanish}
use Rattle.noninterference.proofs.unwinding.hidden_calls_vanish.Goals as goal

pub returns : goal.returns
returns c = calls-vanish
