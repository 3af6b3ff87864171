use Rattle.std.proofs.Common.{arith}
use Rattle.std.specs.Fmt.{decimal}
use Rattle.kom_framing.proofs.Places.{taken_on, most_digits}
use Rattle.kom_framing.proofs.placing.place_len.Goals as goal

pub overflow_add-end : goal.overflow_add-end
overflow_add-end c = omega (arith, c.digit_count.ensures.digits, most_digits c.args.len (omega arith))

pub write_digits-requires : goal.write_digits-requires
write_digits-requires c = (
  omega (arith, c.digit_count.ensures.digits),
  omega (arith, c.digit_count.ensures.digits, most_digits c.args.len (omega arith)),
)

pub returns-clause-written : goal.returns-clause-written
returns-clause-written c =
    let digits = c.write_digits.ensures in
    taken_on c.args.at c.digit_count.result c.write_digits.result c.write_digits.new.buf c.args.out.now
    (decimal c.args.len) _ digits.start c.digit_count.ensures.digits digits.written digits.before

pub returns-clause-within : goal.returns-clause-within
returns-clause-within c = omega (arith, c.digit_count.ensures.digits, most_digits c.args.len (omega arith))
