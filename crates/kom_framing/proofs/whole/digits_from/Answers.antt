use Rattle.std.proofs.Common.{◌≡◌, true, get_or, sym, ◌∙◌, arith}
use Rattle.kom_types.specs.ByteKind.{is_digit}
use Rattle.kom_framing.proofs.Looks.{digit_kind}
use Rattle.kom_framing.proofs.Steps.{digit_bounds, number_fits}
use Rattle.kom_framing.proofs.WholeTokens.{digit_first, digit_next}
use Rattle.kom_framing.proofs.whole.digits_from.Goals as goal

pub loop-end-init : goal.loop-end-init
loop-end-init c = digit_first c.args.window.now c.args.start c.requires.within c.requires.digit

pub overflow_mul-number : goal.overflow_mul-number
overflow_mul-number c = omega (
  arith,
  number_fits c.loop-end.number c.args.start c.loop-end.end c.loop-end.invariant.small c.if-end-start-lt16.true,
)

pub overflow_add-number : goal.overflow_add-number
overflow_add-number c =
    let digit : is_digit (get_or c.args.window.now c.loop-end.end 0) ≡ true =
    sym c.is_ascii_digit.ensures.value ∙ c.if-is_ascii_digit.true in
    let bounds = digit_bounds (get_or c.args.window.now c.loop-end.end 0)
    (digit_kind (get_or c.args.window.now c.loop-end.end 0) digit) in
    omega (
      arith,
      bounds.1,
      number_fits c.loop-end.number c.args.start c.loop-end.end c.loop-end.invariant.small c.if-end-start-lt16.true,
    )

pub loop-end-preserved : goal.loop-end-preserved
loop-end-preserved c =
    digit_next c.args.window.now c.args.start c.loop-end.end c.loop-end.number c.loop-end.invariant
    c.loop-end-test.true c.if-end-start-lt16.true
    (sym c.is_ascii_digit.ensures.value ∙ c.if-is_ascii_digit.true)
