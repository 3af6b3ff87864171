use Rattle.std.proofs.Common.{◌≡◌, arith, sym, ◌∙◌}
use Rattle.kom_types.specs.declared.byte_kind.ByteKind.TheVariants as kind
use Rattle.kom_types.specs.ByteKind.{kind_of}
use Rattle.kom_framing.proofs.Steps.{digit_bounds}
use Rattle.kom_framing.proofs.BegunGreetings.{length_fits, length_more}
use Rattle.kom_framing.proofs.greeting.turn_in_length.Goals as goal

pub overflow_mul-number : goal.overflow_mul-number
overflow_mul-number c = omega (arith, length_fits c.args.digits c.args.number c.requires.few c.requires.small)

pub overflow_add-number : goal.overflow_add-number
overflow_add-number c =
    let e : kind_of c.args.byte ≡ kind.Digit = sym c.kind_of_byte.ensures ∙ c.in-Digit.is in
    let bounds = digit_bounds c.args.byte e in
    omega (arith, length_fits c.args.digits c.args.number c.requires.few c.requires.small)

pub returns-then-digits-lt4 : goal.returns-then-digits-lt4
returns-then-digits-lt4 c =
    λ turned kept. length_more c.args.digits c.args.number c.args.byte turned
    (sym c.kind_of_byte.ensures ∙ c.in-Digit.is) c.if-digits-lt4.true kept
