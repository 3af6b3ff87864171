-- The bytes so far are no line feeds.
use Rattle.std.proofs.Common.{◌≡◌, ◌++◌, take, drop, take_while}
use Rattle.kom_exchange.specs.Pages.{goes_on, behind_line}
use Rattle.kom_exchange.proofs.lines.line_end.Given as goal

abbrev pub invariant-loop-index : goal.invariant-loop-index
invariant-loop-index l = record {
  first : take_while goes_on l.bytes ≡ take l.index l.bytes ++ take_while goes_on (drop l.index l.bytes);
  behind : behind_line l.bytes ≡ behind_line (drop l.index l.bytes);
}
