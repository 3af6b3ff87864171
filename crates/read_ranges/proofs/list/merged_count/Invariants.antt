use Rattle.std.proofs.Common.{◌≡◌, ◌≤◌, ◌+◌, ◌∷◌, drop, length}
use Rattle.read_ranges.specs.Merged.{merge_all}
use Rattle.read_ranges.proofs.list.merged_count.Given as goal

-- the ranges before the last one, and what the last one and the others make
abbrev pub invariant-loop-range : goal.invariant-loop-range
invariant-loop-range l = record {
  whole : l.count + length (merge_all (l.last ∷ drop l.range-index l.others)) ≡ length (merge_all l.list) + 1;
  few : l.count ≤ l.range-index + 1;
}
