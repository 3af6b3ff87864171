use Rattle.std.proofs.Common.{◌≡◌, ◌≤◌, ◌-◌, ℕ, filter, take, length}
use Rattle.name_lookup.specs.Letters.{matches}
use Rattle.name_lookup.specs.Order.{letters_in}
use Rattle.name_lookup.proofs.walking.walk.Given as goal

abbrev pub invariant-loop-place : goal.invariant-loop-place
invariant-loop-place l = record {
  within : l.place ≤ length l.order.numbers;
  found : l.numbers.items
      ≡ filter (λ (number : ℕ). matches l.pattern (letters_in l.kept.entries number)) (take l.place l.order.numbers);
}

abbrev pub decreases-loop-place : goal.decreases-loop-place
decreases-loop-place l = length l.order.numbers - l.place
