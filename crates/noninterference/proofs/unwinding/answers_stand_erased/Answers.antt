use Rattle.noninterference.proofs.outputs.Answering.{answers-erased}
use Rattle.noninterference.proofs.unwinding.answers_stand_erased.Goals as goal

pub returns : goal.returns
returns c = answers-erased
