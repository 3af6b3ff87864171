use Rattle.std.proofs.Common.{ℕ, List, drop, ap, ◌∙◌}
use Rattle.std.specs.Int.{w32, from_le_bytes}
use Rattle.effect_codec.proofs.Ranges.{ranges_pushed}
use Rattle.effect_codec.proofs.reader.so_many_ranges.Goals as goal

pub loop-place-preserved : goal.loop-place-preserved
loop-place-preserved c =
    let first = c.number_of-first.ensures ∙ ap (λ (l : List ℕ). from_le_bytes w32 l) c.rest_of-rest.ensures in
    let after = c.rest_of-after.ensures ∙ ap (λ (l : List ℕ). drop 4 l) c.rest_of-rest.ensures in
    let last = c.number_of-last.ensures ∙ ap (λ (l : List ℕ). from_le_bytes w32 l) after in
    ranges_pushed c.args.bytes.now c.loop-place.place c.number_of-first.result c.number_of-last.result
    c.loop-place.ranges.items c.push.new.self.items c.in_ok-push.ensures.items c.loop-place.invariant first last
