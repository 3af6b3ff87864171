-- The digits so far are binary, and spell a number of as many bits.
use Rattle.std.proofs.Common.{◌≡◌, ◌==◌, ◌||◌, ◌<◌, ◌^◌, true, take}
use Rattle.std.specs.List.{list_all}
use Rattle.kom_types.specs.calls.Arguments.{bits_of}
use Rattle.kom_records.proofs.numbers.bits_in.Given as goal

abbrev pub invariant-loop-digit : goal.invariant-loop-digit
invariant-loop-digit l = record {
  binary : list_all (λ digit. digit == 48 || digit == 49) (take l.digit-index l.digits) ≡ true;
  spelled : l.bits ≡ bits_of (take l.digit-index l.digits);
  small : l.bits < 2 ^ l.digit-index;
}
