use Rattle.std.proofs.Common.{◌≡◌, ◌++◌, drop}
use Rattle.name_lookup.specs.Letters.{first_word}
use Rattle.name_lookup.proofs.steps.push_first.Given as goal

abbrev pub invariant-loop-letter : goal.invariant-loop-letter
invariant-loop-letter l =
    l.target.items ++ first_word (drop l.letter-index l.pattern) ≡ l.initial.target.items ++ first_word l.pattern
