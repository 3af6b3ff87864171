use Rattle.std.proofs.Common.{◌≡◌, ◌≤◌, ◌+◌, ◌*◌, ◌++◌, take, vec_len, vec_capacity}
use Rattle.std.specs.List.{AllByRecursion}
use Rattle.effect_codec.specs.Fields.{coded_ranges, IsRange}
use Rattle.effect_codec.proofs.fields.put_each_range.Given as goal

abbrev pub invariant-loop-range : goal.invariant-loop-range
invariant-loop-range l = record {
  items : l.out.items ≡ l.fn.out.items ++ coded_ranges (take l.range-index l.ranges);
  len : vec_len l.out ≡ vec_len l.fn.out + 8 * l.range-index;
  capacity : vec_capacity l.fn.out ≤ vec_capacity l.out;
  are_ranges : AllByRecursion IsRange (take l.range-index l.ranges);
}
