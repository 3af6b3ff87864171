use Rattle.std.proofs.Common.{◌≡◌}
use Rattle.read_ranges.specs.Changed.{rise_after}
use Rattle.effect_codec.specs.Fields.{ranges_of}
use Rattle.effect_codec.proofs.Rising.{left_rise}
use Rattle.effect_codec.proofs.faulty.rise.Given as goal

abbrev pub invariant-loop-place : goal.invariant-loop-place
invariant-loop-place l = rise_after 0 (ranges_of l.many l.bytes) ≡ left_rise l.many l.place l.end l.bytes
