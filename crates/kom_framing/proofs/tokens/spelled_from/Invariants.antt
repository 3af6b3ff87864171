use Rattle.std.proofs.Common.{◌-◌, length}
use Rattle.kom_framing.proofs.PlacedTokens.{IsSpelled}
use Rattle.kom_framing.proofs.tokens.spelled_from.Given as goal

-- the digits so far
abbrev pub invariant-loop-number : goal.invariant-loop-number
invariant-loop-number l = IsSpelled l.text l.start l.end l.number

abbrev pub decreases-loop-number : goal.decreases-loop-number
decreases-loop-number l = length l.text - l.end
