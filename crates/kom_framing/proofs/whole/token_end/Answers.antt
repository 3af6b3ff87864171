use Rattle.std.proofs.Common.{◌≡◌, get_or, [], sym, ap, ◌∙◌}
use Rattle.kom_types.specs.declared.byte_kind.ByteKind.{ByteKind}
use Rattle.kom_types.specs.declared.byte_kind.ByteKind.TheVariants as kind
use Rattle.kom_types.specs.declared.side.Side.TheVariants as sides
use Rattle.kom_types.specs.ByteKind.{kind_of}
use Rattle.kom_types.specs.Token.{Open, Close, Star}
use Rattle.kom_framing.specs.Lexing.{move_between}
use Rattle.kom_framing.proofs.Lexing.{token_kind}
use Rattle.kom_framing.proofs.WholeTokens.{byte_token}
use Rattle.kom_framing.proofs.whole.token_end.Goals as goal

pub returns-in-Open : goal.returns-in-Open
returns-in-Open c =
    let byte = get_or c.args.window.now c.args.start 0 in
    let e : kind_of byte ≡ kind.Open = sym c.kind_of_byte.ensures ∙ c.in-Open.is in
    byte_token c.args.window.now c.args.start Open c.requires.within (token_kind sides.Server byte [] kind.Open e)
    (λ side. ap (λ (k : ByteKind). move_between side byte k) e)

pub returns-in-Close : goal.returns-in-Close
returns-in-Close c =
    let byte = get_or c.args.window.now c.args.start 0 in
    let e : kind_of byte ≡ kind.Close = sym c.kind_of_byte.ensures ∙ c.in-Close.is in
    byte_token c.args.window.now c.args.start Close c.requires.within (token_kind sides.Server byte [] kind.Close e)
    (λ side. ap (λ (k : ByteKind). move_between side byte k) e)

pub returns-in-Star : goal.returns-in-Star
returns-in-Star c =
    let byte = get_or c.args.window.now c.args.start 0 in
    let e : kind_of byte ≡ kind.Star = sym c.kind_of_byte.ensures ∙ c.in-Star.is in
    byte_token c.args.window.now c.args.start Star c.requires.within (token_kind sides.Server byte [] kind.Star e)
    (λ side. ap (λ (k : ByteKind). move_between side byte k) e)
