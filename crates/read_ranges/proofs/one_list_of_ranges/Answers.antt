use Rattle.read_ranges.proofs.Sets.{rise_ranges_of, union_of-ranges_of, ranges_of-union_of}
use Rattle.read_ranges.proofs.one_list_of_ranges.Goals as goal

pub returns-clause-exists : goal.returns-clause-exists
returns-clause-exists c s within = (rise_ranges_of s, union_of-ranges_of s within)

pub returns-clause-only : goal.returns-clause-only
returns-clause-only c = ranges_of-union_of
