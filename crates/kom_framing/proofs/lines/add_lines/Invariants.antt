use Rattle.std.proofs.Common.{◌-◌, length}
use Rattle.kom_framing.specs.WholeLines.{AddsUpTo}
use Rattle.kom_framing.proofs.lines.add_lines.Given as goal

-- the lines so far were added
abbrev pub invariant-loop-at : goal.invariant-loop-at
invariant-loop-at l = AddsUpTo l.at l.place l.piece l.fn.units.items l.units.items

abbrev pub decreases-loop-at : goal.decreases-loop-at
decreases-loop-at l = length l.initial.piece - l.at
