use Rattle.std.proofs.Common.{◌≡◌, ◌+◌, drop}
use Rattle.kom_letters.specs.Names.{front_count}
use Rattle.kom_letters.proofs.names.front_count.Given as goal

abbrev pub invariant-loop-i : goal.invariant-loop-i
invariant-loop-i l = l.i + front_count l.left (drop l.i l.letters) ≡ front_count l.room l.letters
