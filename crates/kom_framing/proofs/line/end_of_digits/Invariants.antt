use Rattle.std.proofs.Common.{◌≡◌, ◌≤◌, ◌+◌, ◌-◌, length, drop}
use Rattle.std.specs.List.{take_while}
use Rattle.kom_types.specs.ByteKind.{is_digit}
use Rattle.kom_framing.proofs.line.end_of_digits.Given as goal

-- as many digits are before this place as are not after it
abbrev pub invariant-loop-end : goal.invariant-loop-end
invariant-loop-end l = record {
  within : l.end ≤ length l.text;
  counts : l.start + length (take_while is_digit (drop l.start l.text))
      ≡ l.end + length (take_while is_digit (drop l.end l.text));
}

abbrev pub decreases-loop-end : goal.decreases-loop-end
decreases-loop-end l = length l.text - l.end
