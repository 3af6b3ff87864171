use Rattle.std.proofs.Common.{◌≡◌, [], sym, ap, ◌∙◌}
use Rattle.kom_types.specs.declared.byte_kind.ByteKind.{ByteKind}
use Rattle.kom_types.specs.declared.byte_kind.ByteKind.TheVariants as kind
use Rattle.kom_types.specs.declared.side.Side.TheVariants as sides
use Rattle.kom_types.specs.ByteKind.{kind_of}
use Rattle.kom_types.specs.Token.{Open, Close, Star}
use Rattle.kom_framing.specs.Lexing.{move_between}
use Rattle.kom_framing.proofs.Lexing.{token_kind}
use Rattle.kom_framing.proofs.Steps.{one_byte}
use Rattle.kom_framing.proofs.lexer.step_between.Goals as goal

pub returns-in-Open : goal.returns-in-Open
returns-in-Open c = λ bytes at.
    let e : kind_of c.args.byte ≡ kind.Open = sym c.kind_of_byte.ensures ∙ c.in-Open.is in
    one_byte c.args.side c.args.place bytes c.args.byte Open at (token_kind sides.Server c.args.byte [] kind.Open e)
    (ap (λ (k : ByteKind). move_between c.args.side c.args.byte k) e)

pub returns-in-Close : goal.returns-in-Close
returns-in-Close c = λ bytes at.
    let e : kind_of c.args.byte ≡ kind.Close = sym c.kind_of_byte.ensures ∙ c.in-Close.is in
    one_byte c.args.side c.args.place bytes c.args.byte Close at (token_kind sides.Server c.args.byte [] kind.Close e)
    (ap (λ (k : ByteKind). move_between c.args.side c.args.byte k) e)

pub returns-in-Star : goal.returns-in-Star
returns-in-Star c = λ bytes at.
    let e : kind_of c.args.byte ≡ kind.Star = sym c.kind_of_byte.ensures ∙ c.in-Star.is in
    one_byte c.args.side c.args.place bytes c.args.byte Star at (token_kind sides.Server c.args.byte [] kind.Star e)
    (ap (λ (k : ByteKind). move_between c.args.side c.args.byte k) e)
