use Rattle.std.proofs.Common.{◌≡◌, ◌^◌, min, take, IsTrue}
use Rattle.std.specs.List.{list_all}
use Rattle.kom_types.specs.ByteKind.{is_digit}
use Rattle.kom_sweep.specs.Due.{number_in}
use Rattle.kom_sweep.proofs.names.number_of.Given as goal

-- the first bytes are digits, and spell the number, or one that no text has
abbrev pub invariant-loop-byte : goal.invariant-loop-byte
invariant-loop-byte l = record {
  digits : IsTrue (list_all is_digit (take l.byte-index l.content));
  number : l.number ≡ min (number_in (take l.byte-index l.content)) (2 ^ 32);
}
