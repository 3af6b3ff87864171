use Rattle.std.proofs.Common.{◌≡◌, [], drop}
use Rattle.name_lookup.specs.Letters.{matches}
use Rattle.name_lookup.proofs.steps.without_letters.Given as goal

abbrev pub invariant-loop-letter : goal.invariant-loop-letter
invariant-loop-letter l = matches (drop l.letter-index l.pattern) [] ≡ matches l.pattern []
