use Rattle.std.proofs.Common.{◌≡◌, ◌+◌, ℕ, suc, zero, length, refl, ap, sym, ◌∙◌}
use Rattle.kom_types.specs.spellings.Words.{bit_string}
use Rattle.kom_replies.specs.Lengths.{cap_at_u64}
use Rattle.kom_replies.proofs.lengths.LengthSink.bits.Goals as goal

length-bit_string : (value width : ℕ) → length (bit_string value width) ≡ width
length-bit_string value zero = refl
length-bit_string value (suc width) = ap suc (length-bit_string value width)

pub returns-clause-ok : goal.returns-clause-ok
returns-clause-ok c =
    let long = length-bit_string c.args._value c.args.width in
    c.add.ensures ∙ ap (λ (n : ℕ). cap_at_u64 (c.args.self.now + (n + 1))) (sym long)
