use Rattle.noninterference.proofs.outputs.Brought.{messages-erased}
use Rattle.noninterference.proofs.unwinding.messages_stand_erased.Goals as goal

pub returns : goal.returns
returns c = messages-erased
