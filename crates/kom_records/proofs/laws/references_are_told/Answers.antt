use Rattle.kom_records.proofs.ReplyLines.{reference_found}
use Rattle.kom_records.proofs.laws.references_are_told.Goals as goal

pub returns : goal.returns
returns c = λ which tokens reference body is. reference_found which tokens reference body is
