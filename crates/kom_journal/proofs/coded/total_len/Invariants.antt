use Rattle.std.proofs.Common.{◌≡◌, length, take}
use Rattle.kom_journal.specs.Files.{body_of}
use Rattle.kom_journal.proofs.coded.total_len.Given as goal

abbrev pub invariant-loop-effect : goal.invariant-loop-effect
invariant-loop-effect l = l.total ≡ length (body_of (take l.effect-index l.effects))
