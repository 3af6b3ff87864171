use Rattle.noninterference.proofs.outputs.Masked.{rows-masked}
use Rattle.noninterference.proofs.unwinding.rows_stand_masked.Goals as goal

pub returns : goal.returns
returns c = rows-masked
