use Rattle.std.proofs.Common.{arith}
use Rattle.kom_framing.proofs.WholeTokens.{string_token}
use Rattle.kom_framing.proofs.whole.string_end.Goals as goal

pub returns-then-number-window : goal.returns-then-number-window
returns-then-number-window c =
    string_token c.args.window.now c.args.start c.args.end c.args.number c.requires.run c.requires.within
    c.requires.letter (omega arith) (omega arith) (omega arith)
