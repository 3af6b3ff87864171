-- The number of the digits so far, each of which adds at most 207.
use Rattle.std.proofs.Common.{◌≡◌, ◌≤◌, ◌^◌, ◌+◌, ◌*◌, take}
use Rattle.kom_types.specs.Token.{number_of}
use Rattle.kom_reader.proofs.numbers.value_of.Given as goal

abbrev pub invariant-loop-digit : goal.invariant-loop-digit
invariant-loop-digit l = record {
  spelled : l.number ≡ number_of (take l.digit-index l.digits);
  small : l.number + 23 ≤ 23 * 10 ^ l.digit-index;
}
