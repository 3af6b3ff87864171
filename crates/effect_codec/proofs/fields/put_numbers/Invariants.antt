use Rattle.std.proofs.Common.{◌≡◌, ◌≤◌, ◌+◌, ◌*◌, ◌++◌, take, vec_len, vec_capacity}
use Rattle.effect_codec.specs.Fields.{coded_numbers}
use Rattle.effect_codec.proofs.fields.put_numbers.Given as goal

abbrev pub invariant-loop-number : goal.invariant-loop-number
invariant-loop-number l = record {
  items : l.out.items ≡ l.fn.out.items ++ coded_numbers (take l.number-index l.numbers);
  len : vec_len l.out ≡ vec_len l.fn.out + 4 * l.number-index;
  capacity : vec_capacity l.fn.out ≤ vec_capacity l.out;
}
