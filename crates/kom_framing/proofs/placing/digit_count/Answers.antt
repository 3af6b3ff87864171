use Rattle.std.proofs.Common.{length, sym, ap, arith}
use Rattle.std.proofs.lemmas.Fmt.{decimal_digit}
use Rattle.kom_framing.proofs.Decimals.{length-decimal_from}
use Rattle.kom_framing.proofs.placing.digit_count.Goals as goal

pub returns-then-number-lt10-clause-digits : goal.returns-then-number-lt10-clause-digits
returns-then-number-lt10-clause-digits c = sym (ap length (decimal_digit c.args.number c.if-number-lt10.true))

pub returns-then-number-lt100-clause-digits : goal.returns-then-number-lt100-clause-digits
returns-then-number-lt100-clause-digits c =
    sym (length-decimal_from 1 c.args.number (omega arith) (omega arith) (omega arith))

pub returns-then-number-lt1000-clause-digits : goal.returns-then-number-lt1000-clause-digits
returns-then-number-lt1000-clause-digits c =
    sym (length-decimal_from 2 c.args.number (omega arith) (omega arith) (omega arith))

pub returns-then-number-lt10000-clause-digits : goal.returns-then-number-lt10000-clause-digits
returns-then-number-lt10000-clause-digits c =
    sym (length-decimal_from 3 c.args.number (omega arith) (omega arith) (omega arith))

pub returns-else-number-lt10000-clause-digits : goal.returns-else-number-lt10000-clause-digits
returns-else-number-lt10000-clause-digits c =
    let power = c.ilog10.ensures in
    sym (length-decimal_from c.ilog10.result c.args.number power.power_le power.next_power_gt (omega arith))
