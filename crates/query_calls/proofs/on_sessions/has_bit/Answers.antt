use Rattle.std.proofs.Common.{◌<◌, ◌≤◌, ◌^◌, sym, ◌∙◌, arith}
use Rattle.std.proofs.lemmas.Bool.{le-ltb}
use Rattle.query_calls.proofs.Bits.{no_bit}
use Rattle.query_calls.proofs.on_sessions.has_bit.Goals as goal

pub returns-else-number-lt-BITS : goal.returns-else-number-lt-BITS
returns-else-number-lt-BITS c =
    let past : 32 ≤ c.args.number = omega arith in
    let fits : c.args.bits < 2 ^ 32 = omega arith in
    le-ltb c.args.number 32 past ∙ sym (no_bit c.args.bits c.args.number fits past)
