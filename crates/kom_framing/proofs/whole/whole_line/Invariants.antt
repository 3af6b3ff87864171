use Rattle.std.proofs.Common.{◌≤◌, ◌-◌, length, take}
use Rattle.kom_types.specs.declared.side.Side.{Side}
use Rattle.kom_framing.specs.declared.lexer.Lexer.TheVariants as lexer
use Rattle.kom_framing.specs.Scanning.{IsBegun}
use Rattle.kom_framing.proofs.whole.whole_line.Given as goal

-- the tokens so far are whole, and another one may begin
abbrev pub invariant-loop-at : goal.invariant-loop-at
invariant-loop-at l = record {
  within : l.at ≤ length l.window;
  begun : (side : Side) → IsBegun side (take l.at l.window) l.starts.items lexer.Between;
}

abbrev pub decreases-loop-at : goal.decreases-loop-at
decreases-loop-at l = length l.initial.window - l.at
