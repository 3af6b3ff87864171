use Rattle.std.proofs.Common.{◌≡◌, ℕ, ◌-◌, List, drop, ap, sym, ◌∙◌, arith}
use Rattle.std.specs.Int.{w32, from_le_bytes}
use Rattle.read_ranges.specs.Changed.{rise_after}
use Rattle.effect_codec.specs.Fields.{ranges_of}
use Rattle.effect_codec.proofs.Rising.{tried, none_left}
use Rattle.effect_codec.proofs.faulty.rise.Goals as goal

pub loop-place-init : goal.loop-place-init
loop-place-init c =
    let all : c.args.many ≡ c.args.many - 0 = omega arith in
    ap (λ (n : ℕ). rise_after 0 (ranges_of n c.args.bytes.now)) all

pub returns-then-not-rises_after : goal.returns-then-not-rises_after
returns-then-not-rises_after c =
    let first = c.number_of-first.ensures ∙ ap (λ (l : List ℕ). from_le_bytes w32 l) c.rest_of-range.ensures in
    let after = c.rest_of-after.ensures ∙ ap (λ (l : List ℕ). drop 4 l) c.rest_of-range.ensures in
    let last = c.number_of-last.ensures ∙ ap (λ (l : List ℕ). from_le_bytes w32 l) after in
    sym (c.loop-place.invariant ∙ tried c.args.many c.loop-place.place c.loop-place.end c.number_of-first.result
    c.number_of-last.result c.args.bytes.now c.loop-place-test.true first last _
    (sym c.rises_after.ensures ∙ c.if-not-rises_after.true))

pub loop-place-preserved : goal.loop-place-preserved
loop-place-preserved c =
    let first = c.number_of-first.ensures ∙ ap (λ (l : List ℕ). from_le_bytes w32 l) c.rest_of-range.ensures in
    let after = c.rest_of-after.ensures ∙ ap (λ (l : List ℕ). drop 4 l) c.rest_of-range.ensures in
    let last = c.number_of-last.ensures ∙ ap (λ (l : List ℕ). from_le_bytes w32 l) after in
    c.loop-place.invariant ∙ tried c.args.many c.loop-place.place c.loop-place.end c.number_of-first.result
    c.number_of-last.result c.args.bytes.now c.loop-place-test.true first last _
    (sym c.rises_after.ensures ∙ c.if-not-rises_after.false)

pub returns : goal.returns
returns c = sym (c.loop-place.invariant
    ∙ none_left c.args.many c.loop-place.place c.loop-place.end c.args.bytes.now c.loop-place-test.false)
