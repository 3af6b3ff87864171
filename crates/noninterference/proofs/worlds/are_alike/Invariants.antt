-- The lists are alike where what is left of them is.
use Rattle.std.proofs.Common.{◌↔◌, drop}
use Rattle.noninterference.specs.respect.Hidden.{AreAlike}
use Rattle.noninterference.proofs.worlds.are_alike.Given as goal

abbrev pub invariant-loop-place : goal.invariant-loop-place
invariant-loop-place l =
    AreAlike l.group l.ones l.others ↔ AreAlike l.group (drop l.place l.ones) (drop l.place l.others)
