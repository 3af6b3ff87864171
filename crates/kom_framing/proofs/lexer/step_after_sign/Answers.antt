use Rattle.std.proofs.Common.{arith, sym, subst, ◌∙◌}
use Rattle.kom_framing.specs.declared.lexer.Step.{Step}
use Rattle.kom_framing.specs.declared.lexer.Lexer.TheVariants as lexer
use Rattle.kom_framing.specs.Scanning.{IsMove}
use Rattle.kom_framing.proofs.Steps.{sign_ends, sign_goes}
use Rattle.kom_framing.proofs.lexer.step_after_sign.Goals as goal

pub returns-then-digits-lt16 : goal.returns-then-digits-lt16
returns-then-digits-lt16 c = λ side bytes at after.
    sign_goes side c.args.start bytes c.args.byte (sym c.kind_of_byte.ensures ∙ c.in-Digit.is) (omega arith) after

pub returns-else-digits-eq0 : goal.returns-else-digits-eq0
returns-else-digits-eq0 c = λ side bytes at after.
    subst (λ (s : Step). IsMove side s (lexer.AfterSign c.args.start) bytes c.args.byte) (sym c.step_after.ensures)
    (sign_ends side c.args.start bytes c.args.byte
    (λ e. c.in_default.not-Digit (c.kind_of_byte.ensures ∙ e)) (omega arith) after)
