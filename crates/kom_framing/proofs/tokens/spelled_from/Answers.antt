use Rattle.std.proofs.Common.{◌≡◌, true, false, get_or, sym, ◌∙◌, arith}
use Rattle.kom_types.specs.ByteKind.{is_digit}
use Rattle.kom_framing.proofs.Looks.{digit_kind}
use Rattle.kom_framing.proofs.Steps.{digit_bounds, number_fits}
use Rattle.kom_framing.proofs.PlacedTokens.{spelled_first, spelled_within, spelled_next, spelled_end}
use Rattle.kom_framing.proofs.tokens.spelled_from.Goals as goal

pub loop-number-init : goal.loop-number-init
loop-number-init c = spelled_first c.args.text.now c.args.start

pub bounds-text-end : goal.bounds-text-end
bounds-text-end c =
    (spelled_within c.args.text.now c.args.start c.loop-number.end c.loop-number.number c.requires.token c.requires.digit
    c.loop-number.invariant).0

pub overflow_sub-number : goal.overflow_sub-number
overflow_sub-number c =
    let digit : is_digit (get_or c.args.text.now c.loop-number.end 0) ≡ true =
    sym c.is_ascii_digit.ensures.value ∙ c.loop-number-test.true in
    (digit_bounds (get_or c.args.text.now c.loop-number.end 0)
    (digit_kind (get_or c.args.text.now c.loop-number.end 0) digit)).0

pub overflow_mul-number : goal.overflow_mul-number
overflow_mul-number c =
    let digit : is_digit (get_or c.args.text.now c.loop-number.end 0) ≡ true =
    sym c.is_ascii_digit.ensures.value ∙ c.loop-number-test.true in
    let few = (spelled_within c.args.text.now c.args.start c.loop-number.end c.loop-number.number c.requires.token
    c.requires.digit c.loop-number.invariant).1 digit in
    omega (arith, number_fits c.loop-number.number c.args.start c.loop-number.end c.loop-number.invariant.small few)

pub overflow_add-number : goal.overflow_add-number
overflow_add-number c =
    let digit : is_digit (get_or c.args.text.now c.loop-number.end 0) ≡ true =
    sym c.is_ascii_digit.ensures.value ∙ c.loop-number-test.true in
    let bounds = digit_bounds (get_or c.args.text.now c.loop-number.end 0)
    (digit_kind (get_or c.args.text.now c.loop-number.end 0) digit) in
    let few = (spelled_within c.args.text.now c.args.start c.loop-number.end c.loop-number.number c.requires.token
    c.requires.digit c.loop-number.invariant).1 digit in
    omega (arith, bounds.1, number_fits c.loop-number.number c.args.start c.loop-number.end c.loop-number.invariant.small few)

pub loop-number-preserved : goal.loop-number-preserved
loop-number-preserved c =
    let within = (spelled_within c.args.text.now c.args.start c.loop-number.end c.loop-number.number c.requires.token
    c.requires.digit c.loop-number.invariant).0 in
    spelled_next c.args.text.now c.args.start c.loop-number.end c.loop-number.number within
    (sym c.is_ascii_digit.ensures.value ∙ c.loop-number-test.true) c.loop-number.invariant

pub returns : goal.returns
returns c =
    let within = (spelled_within c.args.text.now c.args.start c.loop-number.end c.loop-number.number c.requires.token
    c.requires.digit c.loop-number.invariant).0 in
    record {
      end = spelled_end c.args.text.now c.args.start c.loop-number.end c.loop-number.number within
          (sym c.is_ascii_digit.ensures.value ∙ c.loop-number-test.false) c.loop-number.invariant;
      number = c.loop-number.invariant.spelled;
    }
