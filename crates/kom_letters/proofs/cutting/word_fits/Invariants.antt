use Rattle.std.proofs.Common.{◌≡◌, drop}
use Rattle.kom_letters.specs.Lines.{word_fits}
use Rattle.kom_letters.proofs.cutting.word_fits.Given as goal

abbrev pub invariant-loop-c : goal.invariant-loop-c
invariant-loop-c l = word_fits l.left (drop l.c-index l.rest) ≡ word_fits l.room l.rest
