use Rattle.std.proofs.Common.{◌≡◌, ◌≤◌, ◌++◌, ◌∷◌, drop}
use Rattle.read_ranges.specs.Merged.{merge_all}
use Rattle.read_ranges.proofs.list.refill.Given as goal

-- the ranges that are kept, and what the last one and the others make
abbrev pub invariant-loop-range : goal.invariant-loop-range
invariant-loop-range l = record {
  whole : l.kept.items ++ merge_all (l.last ∷ drop l.range-index l.others) ≡ merge_all l.list;
  room : l.fn.kept.spare ≤ l.kept.spare;
}
