use Rattle.std.proofs.Common.{◌≡◌}
use Rattle.effect_codec.specs.Fields.{ranges_of}
use Rattle.effect_codec.proofs.reader.so_many_ranges.Given as goal

abbrev pub invariant-loop-place : goal.invariant-loop-place
invariant-loop-place l = l.ranges.items ≡ ranges_of l.place l.bytes
