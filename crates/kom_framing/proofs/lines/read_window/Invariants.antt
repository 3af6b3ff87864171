use Rattle.std.proofs.Common.{◌≤◌, ◌-◌, ◌++◌, length, take}
use Rattle.kom_framing.specs.Scanning.{IsBegun}
use Rattle.kom_framing.specs.BegunLines.{Extends}
use Rattle.kom_framing.proofs.lines.read_window.Given as goal

-- what is kept is that of the line with the bytes of the window so far
abbrev pub invariant-loop-at : goal.invariant-loop-at
invariant-loop-at l = record {
  within : l.at ≤ length l.window;
  begun : IsBegun l.side (l.text ++ take l.at l.window) l.starts.items l.lexer;
  extends : Extends l.fn.starts.items l.starts.items;
}

abbrev pub decreases-loop-at : goal.decreases-loop-at
decreases-loop-at l = length l.initial.window - l.at
