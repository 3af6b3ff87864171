use Rattle.std.proofs.Common.{◌≡◌, ℕ, ◌<◌, ◌++◌, true, take, get_or}
use Rattle.name_lookup.specs.Letters.{matches}
use Rattle.name_lookup.specs.Order.{letters_in}
use Rattle.name_lookup.proofs.walking.push_found.Given as goal

abbrev pub invariant-loop-len : goal.invariant-loop-len
invariant-loop-len l = record {
  numbers : l.numbers.items ≡ l.initial.numbers.items ++ take l.len l.ahead;
  found : (k : ℕ) → k < l.len → matches l.pattern (letters_in l.kept.entries (get_or l.ahead k 0)) ≡ true;
}
