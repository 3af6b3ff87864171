use Rattle.std.proofs.Common.{◌≡◌, ◌<◌, ◌++◌, ◌∷◌, take, drop}
use Rattle.read_ranges.specs.ListFault.{EndWithinBelow}
use Rattle.read_ranges.specs.Merged.{merge_all}
use Rattle.read_ranges.proofs.list.merge.Given as goal

-- the ranges that are made, and what the last one and the others make
abbrev pub invariant-loop-at : goal.invariant-loop-at
invariant-loop-at l = record {
  whole : take l.count l.list ++ merge_all (l.last ∷ drop l.at l.list) ≡ merge_all l.initial.list;
  others : drop l.at l.list ≡ drop l.at l.initial.list;
  few : l.count < l.at;
  bounds : EndWithinBelow l.initial.list l.at;
}
