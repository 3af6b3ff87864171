use Rattle.std.proofs.Common.{◌≡◌, ◌++◌, length}
use Rattle.name_lookup.specs.Letters.{letters_left, after_word, through_word, ends_word}
use Rattle.name_lookup.proofs.steps.push_word.Given as goal

abbrev pub invariant-loop-letter : goal.invariant-loop-letter
invariant-loop-letter l = record {
  after : after_word (letters_left l.letters) ≡ after_word (letters_left l.initial.letters);
  ended : ends_word (letters_left l.letters) ≡ ends_word (letters_left l.initial.letters);
  target : l.target.items ++ through_word (letters_left l.letters)
      ≡ l.initial.target.items ++ through_word (letters_left l.initial.letters);
}

abbrev pub decreases-loop-letter : goal.decreases-loop-letter
decreases-loop-letter l = length (letters_left l.letters)
