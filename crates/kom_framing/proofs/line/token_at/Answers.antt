use Rattle.std.proofs.Common.{sym, ◌∙◌}
use Rattle.kom_framing.proofs.PlacedTokens.{star_found, signed_found}
use Rattle.kom_framing.proofs.line.token_at.Goals as goal

pub returns-in-Sign : goal.returns-in-Sign
returns-in-Sign c =
    sym (signed_found c.args.text.now c.args.start c.end_of_digits-end.result c.requires
    (sym c.kind_of_byte.ensures ∙ c.in-Sign.is) c.end_of_digits-end.ensures)

pub returns-in_default : goal.returns-in_default
returns-in_default c =
    sym (star_found c.args.text.now c.args.start c.requires (λ e. c.in_default.not-Digit (c.kind_of_byte.ensures ∙ e))
    (λ e. c.in_default.not-Open (c.kind_of_byte.ensures ∙ e)) (λ e. c.in_default.not-Close (c.kind_of_byte.ensures ∙ e))
    (λ e. c.in_default.not-Sign (c.kind_of_byte.ensures ∙ e)))
