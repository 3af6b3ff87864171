use Rattle.std.proofs.Common.{◌≡◌, ◌<◌, ◌++◌, drop}
use Rattle.kom_letters.specs.Spacing.{shown_letters}
use Rattle.kom_letters.proofs.spacing.space.Given as goal

abbrev pub invariant-loop-i : goal.invariant-loop-i
invariant-loop-i l = (l.out.items ++ shown_letters l.at (drop l.i l.letters) ≡ shown_letters 0 l.letters) × (l.at < 8)
