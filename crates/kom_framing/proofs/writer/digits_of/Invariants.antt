use Rattle.std.proofs.Common.{◌≡◌, ◌-◌, ◌++◌, length, take}
use Rattle.kom_types.specs.spellings.Words.{bit_string}
use Rattle.kom_framing.proofs.writer.digits_of.Given as goal

-- the digits so far and those to come are the number's
abbrev pub invariant-loop-place : goal.invariant-loop-place
invariant-loop-place l = record {
  room : length l.digits ≡ 16;
  told : take l.place l.digits ++ bit_string l.bits (l.width - l.place) ≡ bit_string l.bits l.width;
}
