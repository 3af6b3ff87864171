use Rattle.std.proofs.Common.{ℕ, List, ◌++◌, ap, ◌∙◌, arith}
use Rattle.std.specs.Fmt.{decimal}
use Rattle.kom_framing.proofs.Places.{taken_on, few_digits}
use Rattle.kom_framing.proofs.placing.place_number.Goals as goal

pub overflow_add-end : goal.overflow_add-end
overflow_add-end c = omega (
  arith,
  c.digit_count.ensures.digits,
  few_digits c.args.n (omega arith),
  c.place_space-at.ensures.within,
  c.place_space-at.auto.out,
)

pub write_digits-requires : goal.write_digits-requires
write_digits-requires c = (
  omega (arith, c.digit_count.ensures.digits),
  omega (
    arith,
    c.digit_count.ensures.digits,
    few_digits c.args.n (omega arith),
    c.place_space-at.ensures.within,
    c.place_space-at.auto.out,
  ),
)

pub returns-clause-written : goal.returns-clause-written
returns-clause-written c =
    let digits = c.write_digits.ensures in
    taken_on c.place_space-at.result c.digit_count.result c.write_digits.result c.write_digits.new.buf
    c.place_space-at.new.out (decimal c.args.n) _ digits.start c.digit_count.ensures.digits digits.written digits.before
    ∙ ap (λ (t : List ℕ). t ++ decimal c.args.n) c.place_space-at.ensures.written

pub returns-clause-within : goal.returns-clause-within
returns-clause-within c =
    omega (arith, c.digit_count.ensures.digits, few_digits c.args.n (omega arith), c.place_space-at.ensures.within)
