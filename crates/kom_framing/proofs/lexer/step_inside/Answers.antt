use Rattle.std.proofs.Common.{arith}
use Rattle.kom_framing.proofs.Steps.{string_ends, string_goes}
use Rattle.kom_framing.proofs.lexer.step_inside.Goals as goal

pub returns-then-lacking-left : goal.returns-then-lacking-left
returns-then-lacking-left c =
    λ side bytes tail inside whole. string_ends side c.args.start c.args.lacking bytes tail (omega arith) inside

pub returns-else-lacking-left : goal.returns-else-lacking-left
returns-else-lacking-left c =
    λ side bytes tail inside whole. string_goes side c.args.start c.args.lacking c.args.left bytes tail
    c.requires.some (omega arith) whole inside
