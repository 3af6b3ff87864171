use Rattle.std.proofs.Common.{◌≡◌, ◌+◌, drop}
use Rattle.read_ranges.specs.Numbers.{ranges_of}
use Rattle.read_ranges.specs.Changed.{all_marked, size_of}
use Rattle.read_ranges.proofs.Ranges.all_marked.Given as goal

-- what the numbers that are left make of the set so far, and how many numbers it has more
abbrev pub invariant-loop-number : goal.invariant-loop-number
invariant-loop-number l = record {
  ranges : all_marked (drop l.number-index l.numbers) (ranges_of l.read.numbers) ≡ all_marked l.numbers
      (ranges_of l.self.numbers);
  newly : l.newly + size_of (ranges_of l.self.numbers) ≡ size_of (ranges_of l.read.numbers);
}
