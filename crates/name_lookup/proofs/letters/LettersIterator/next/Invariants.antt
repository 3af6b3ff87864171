use Rattle.std.proofs.Common.{◌≡◌, length}
use Rattle.name_lookup.specs.Letters.{letters_left}
use Rattle.name_lookup.proofs.letters.LettersIterator.next.Given as goal

abbrev pub invariant-loop-byte : goal.invariant-loop-byte
invariant-loop-byte l = letters_left l.self ≡ letters_left l.initial.self

abbrev pub decreases-loop-byte : goal.decreases-loop-byte
decreases-loop-byte l = length l.self.rest.now
