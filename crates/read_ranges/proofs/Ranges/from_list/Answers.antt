use Rattle.read_ranges.proofs.Sets.{ranges_of-union_of}
use Rattle.read_ranges.proofs.Lists.{touch_from_faultless, rise_merged, union_of-merged}
use Rattle.read_ranges.proofs.Ranges.from_list.Goals as goal

pub invariant_of-result : goal.invariant_of-result
invariant_of-result c =
    rw c.of_list.ensures.items
    (rise_merged 1 _ (touch_from_faultless c.args.list.items c.of_list.ensures.bounds c.requires))

pub returns-clause-numbers : goal.returns-clause-numbers
returns-clause-numbers c =
    rw c.of_list.ensures.items
    (union_of-merged _ (touch_from_faultless c.args.list.items c.of_list.ensures.bounds c.requires))

pub returns-clause-ranges : goal.returns-clause-ranges
returns-clause-ranges c =
    rw c.of_list.ensures.items
    (ranges_of-union_of _ (rise_merged 1 _
    (touch_from_faultless c.args.list.items c.of_list.ensures.bounds c.requires)))
