use Rattle.std.proofs.Common.{◌-◌, length}
use Rattle.kom_framing.specs.WholeTokens.{IsRunTo}
use Rattle.kom_framing.proofs.whole.digits_from.Given as goal

-- the digits so far
abbrev pub invariant-loop-end : goal.invariant-loop-end
invariant-loop-end l = IsRunTo l.window l.start l.end l.number

abbrev pub decreases-loop-end : goal.decreases-loop-end
decreases-loop-end l = length l.initial.window - l.end
