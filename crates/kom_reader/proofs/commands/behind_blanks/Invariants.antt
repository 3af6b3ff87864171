use Rattle.std.proofs.Common.{◌≡◌, drop}
use Rattle.kom_types.specs.Grammar.{drop_while}
use Rattle.kom_reader.specs.Commands.{is_blank}
use Rattle.kom_reader.proofs.commands.behind_blanks.Given as goal

-- the bytes so far are blanks
abbrev pub invariant-loop-index : goal.invariant-loop-index
invariant-loop-index l = drop_while is_blank l.line ≡ drop_while is_blank (drop l.index l.line)
