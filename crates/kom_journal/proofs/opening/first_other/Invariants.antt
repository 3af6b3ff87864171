use Rattle.std.proofs.Common.{◌≡◌, take}
use Rattle.kom_journal.specs.Files.{header}
use Rattle.kom_journal.proofs.opening.first_other.Given as goal

abbrev pub invariant-loop-place : goal.invariant-loop-place
invariant-loop-place l = take l.place l.head ≡ take l.place header
