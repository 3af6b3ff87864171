use Rattle.std.proofs.Common.{◌≡◌, ◌+◌, length}
use Rattle.memchr.specs.Find.{is_byte, places}
use Rattle.kom_types.proofs.texts.lines_of.Given as goal

-- so many line feeds were passed, and the others are still to come
abbrev pub invariant-loop : goal.invariant-loop
invariant-loop l = l.lines + length l.iterator' ≡ length (places (is_byte 10) l.fn.body)
