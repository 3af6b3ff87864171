use Rattle.std.proofs.Common.{◌≡◌, arith, sym, subst, ◌∙◌, inl, inr}
use Rattle.std.proofs.lemmas.Bool.{cases_lt}
use Rattle.kom_types.specs.declared.byte_kind.ByteKind.TheVariants as kind
use Rattle.kom_types.specs.ByteKind.{kind_of}
use Rattle.kom_framing.specs.declared.lexer.Step.{Step}
use Rattle.kom_framing.specs.declared.lexer.Lexer.TheVariants as lexer
use Rattle.kom_framing.specs.Scanning.{IsMove}
use Rattle.kom_framing.proofs.Steps.{digit_bounds, number_fits, digit_move, run_ends, string_is_empty, string_begins}
use Rattle.kom_framing.proofs.lexer.step_in_run.Goals as goal

pub overflow_mul-number : goal.overflow_mul-number
overflow_mul-number c =
    omega (arith, number_fits c.args.number c.args.start c.args.place c.requires.small c.if-place-start-lt16.true)

pub overflow_add-number : goal.overflow_add-number
overflow_add-number c =
    let e : kind_of c.args.byte ≡ kind.Digit = sym c.kind_of_byte.ensures ∙ c.in-Digit.is in
    let bounds = digit_bounds c.args.byte e in
    omega (
      arith,
      c.digit_of.ensures,
      bounds.1,
      number_fits c.args.number c.args.start c.args.place c.requires.small c.if-place-start-lt16.true,
    )

pub returns-then-place-start-lt16 : goal.returns-then-place-start-lt16
returns-then-place-start-lt16 c =
    λ side bytes at run. digit_move side c.args.start c.args.number c.digit_of.result bytes c.args.byte
    (sym c.kind_of_byte.ensures ∙ c.in-Digit.is) c.digit_of.ensures (omega arith) run

pub returns-then-number-lt4294967296 : goal.returns-then-number-lt4294967296
returns-then-number-lt4294967296 c = λ side bytes at run.
    let e : kind_of c.args.byte ≡ kind.Hollerith = sym c.kind_of_byte.ensures ∙ c.in-Hollerith.is in
    let small = c.if-number-lt4294967296.true in
    let short = c.if-place-start-le10.true in
    elim (cases_lt 0 c.args.number) [
      | inl some ↦ subst (λ (s : Step). IsMove side s (lexer.Run c.args.start c.args.number) bytes c.args.byte)
          (sym (c.step_into.ensures.some some))
          (string_begins side c.args.start c.args.number bytes c.args.byte e (omega arith) small some run)
      | inr none ↦ subst (λ (s : Step). IsMove side s (lexer.Run c.args.start c.args.number) bytes c.args.byte)
          (sym (c.step_into.ensures.none (omega arith)))
          (string_is_empty side c.args.start c.args.number bytes c.args.byte e (omega arith) (omega arith) run)
    ]

pub returns-in_default : goal.returns-in_default
returns-in_default c = λ side bytes at run.
    subst (λ (s : Step). IsMove side s (lexer.Run c.args.start c.args.number) bytes c.args.byte)
    (sym c.step_after.ensures)
    (run_ends side c.args.start c.args.number bytes c.args.byte
    (λ e. c.in_default.not-Digit (c.kind_of_byte.ensures ∙ e))
    (λ e. c.in_default.not-Hollerith (c.kind_of_byte.ensures ∙ e)) run)
