use Rattle.noninterference.proofs.respect.Pairs.{texts-vanish}
use Rattle.noninterference.proofs.unwinding.hidden_texts_vanish.Goals as goal

pub returns : goal.returns
returns c = texts-vanish
