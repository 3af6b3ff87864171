use Rattle.noninterference.proofs.respect.Entries.{entries-vanish}
use Rattle.noninterference.proofs.unwinding.hidden_entries_vanish.Goals as goal

pub returns : goal.returns
returns c = entries-vanish
