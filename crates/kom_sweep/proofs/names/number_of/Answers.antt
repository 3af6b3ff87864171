use Rattle.std.proofs.Common.{refl, sym, ◌∙◌}
use Rattle.kom_types.specs.ByteKind.{is_digit}
use Rattle.kom_sweep.proofs.Spelling.{spelled_more, digits_more, not_digits, number_known, none_read}
use Rattle.kom_sweep.proofs.names.number_of.Goals as goal

pub loop-byte-init : goal.loop-byte-init
loop-byte-init c = record { digits = refl; number = refl }

pub returns-then-not-is_digit : goal.returns-then-not-is_digit
returns-then-not-is_digit c = λ text small.
    none_read c.args.content.now text
    (not_digits c.args.content.now c.loop-byte.byte-index _ c.loop-byte-test.true
    (sym c.is_digit.ensures ∙ c.if-not-is_digit.true))

pub with_digit-number-requires-clause-digit : goal.with_digit-number-requires-clause-digit
with_digit-number-requires-clause-digit c = sym c.is_digit.ensures ∙ c.if-not-is_digit.false

pub loop-byte-preserved : goal.loop-byte-preserved
loop-byte-preserved c = record {
  digits = digits_more c.args.content.now c.loop-byte.byte-index _ c.loop-byte-test.true c.loop-byte.invariant.digits
      (sym c.is_digit.ensures ∙ c.if-not-is_digit.false);
  number = c.with_digit-number.ensures
      ∙ spelled_more c.args.content.now c.loop-byte.byte-index _ c.loop-byte.number c.loop-byte-test.true
      c.loop-byte.invariant.number;
}

pub returns : goal.returns
returns c = λ text small.
    number_known c.args.content.now c.loop-byte.byte-index c.loop-byte.number text c.known.result c.loop-byte-test.false
    c.loop-byte.invariant.digits c.loop-byte.invariant.number small c.known.ensures.some c.known.ensures.none
