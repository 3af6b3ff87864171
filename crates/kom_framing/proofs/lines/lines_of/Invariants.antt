use Rattle.std.proofs.Common.{◌≡◌, ◌≤◌, ◌+◌, ◌-◌, [], length, drop}
use Rattle.kom_types.specs.declared.limits.TheConstants.{LONGEST_STREAM}
use Rattle.kom_types.specs.Stream.{lines_from}
use Rattle.kom_framing.specs.BegunLines.{IsLine}
use Rattle.kom_framing.specs.WholeLines.{Continues}
use Rattle.kom_framing.proofs.lines.lines_of.Given as goal

-- the lines so far and those of what is left are those of the piece
abbrev pub invariant-loop-at : goal.invariant-loop-at
invariant-loop-at l = record {
  within : l.at ≤ length l.piece;
  early : l.place + l.at ≤ LONGEST_STREAM;
  fresh : l.begun.text.items ≡ [];
  line : IsLine l.side l.begun;
  split : Continues l.whole.items (lines_from l.side (l.place + l.at) [] (drop l.at l.piece))
      (lines_from l.side l.place [] l.piece);
}

abbrev pub decreases-loop-at : goal.decreases-loop-at
decreases-loop-at l = length l.initial.piece - l.at
