use Rattle.read_ranges.proofs.Rising.{rise_told}
use Rattle.read_ranges.proofs.changes.rise.Goals as goal

pub returns-clause-rise : goal.returns-clause-rise
returns-clause-rise c = rise_told _ _ _ c.is_none.ensures c.first_fault.ensures
