-- The bytes so far are letters.
use Rattle.std.proofs.Common.{◌≡◌, ◌++◌, take, drop}
use Rattle.std.specs.List.{take_while}
use Rattle.kom_types.specs.Grammar.{drop_while}
use Rattle.kom_reader.specs.Commands.{is_letter}
use Rattle.kom_reader.proofs.commands.letters_at.Given as goal

abbrev pub invariant-loop-index : goal.invariant-loop-index
invariant-loop-index l = record {
  taken : take_while is_letter l.line ≡ take l.index l.line ++ take_while is_letter (drop l.index l.line);
  left : drop_while is_letter l.line ≡ drop_while is_letter (drop l.index l.line);
}
