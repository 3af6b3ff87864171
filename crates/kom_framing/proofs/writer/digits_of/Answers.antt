use Rattle.std.proofs.Common.{◌≡◌, ℕ, ◌-◌, ◌+◌, ◌<◌, ◌/◌, ◌%◌, ◌^◌, suc, List, ◌∷◌, ◌++◌, length, take, set, arith}
use Rattle.std.proofs.Common.{append_assoc, length-set, ap, ◌∙◌}
use Rattle.std.proofs.lemmas.List.{take_more_set}
use Rattle.kom_types.specs.spellings.Words.{bit_string}
use Rattle.kom_framing.proofs.writer.digits_of.Goals as goal

-- one more digit
one_more : (bits width place : ℕ) (digits : List ℕ) → place < width → place < length digits
    → take place digits ++ bit_string bits (width - place) ≡ bit_string bits width
    → take (place + 1) (set digits place (48 + bits / 2 ^ (width - 1 - place) % 2))
    ++ bit_string bits (width - (place + 1))
    ≡ bit_string bits width
one_more bits width place digits before within told =
    let next : width - (place + 1) ≡ width - 1 - place = omega arith in
    let this : width - place ≡ suc (width - 1 - place) = omega arith in
    let so_far = rw this at told in
    ap (λ prefix. prefix ++ bit_string bits (width - (place + 1))) (take_more_set digits place _ within)
    ∙ append_assoc (take place digits) _ _
    ∙ ap (λ left. take place digits ++ ((48 + bits / 2 ^ (width - 1 - place) % 2) ∷ bit_string bits left)) next
    ∙ so_far

pub loop-place-preserved : goal.loop-place-preserved
loop-place-preserved c = record {
  room = length-set c.loop-place.digits c.loop-place.place _ ∙ c.loop-place.invariant.room;
  told = one_more c.args.bits c.args.width c.loop-place.place c.loop-place.digits c.loop-place-test.true (omega arith)
      c.loop-place.invariant.told;
}
