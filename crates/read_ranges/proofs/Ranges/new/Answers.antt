use Rattle.std.proofs.Common.{[]}
use Rattle.read_ranges.proofs.Sets.{union_of-nil, ranges_of-union_of}
use Rattle.read_ranges.proofs.Ranges.new.Goals as goal

pub returns-clause-empty : goal.returns-clause-empty
returns-clause-empty c = rw c.new.ensures union_of-nil

pub returns-clause-none : goal.returns-clause-none
returns-clause-none c = rw c.new.ensures (ranges_of-union_of [] tt)
