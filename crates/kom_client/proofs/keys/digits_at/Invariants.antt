-- The bytes so far are digits.
use Rattle.std.proofs.Common.{◌≡◌, ◌++◌, take, drop}
use Rattle.std.specs.List.{take_while}
use Rattle.kom_types.specs.ByteKind.{is_digit}
use Rattle.kom_types.specs.Grammar.{drop_while}
use Rattle.kom_client.proofs.keys.digits_at.Given as goal

abbrev pub invariant-loop-index : goal.invariant-loop-index
invariant-loop-index l = record {
  taken : take_while is_digit l.bytes ≡ take l.index l.bytes ++ take_while is_digit (drop l.index l.bytes);
  left : drop_while is_digit l.bytes ≡ drop_while is_digit (drop l.index l.bytes);
}
