use Rattle.read_ranges.proofs.Cuts.{unmarked_copy}
use Rattle.read_ranges.proofs.Ranges.unmarked.Goals as goal

pub returns : goal.returns
returns c = unmarked_copy _ _ _ _ _ c.in_ok-into_list.ensures.ok c.in_ok-unmark.ensures.ok c.in_ok-read.ensures.cases
