use Rattle.std.proofs.Common.{◌≡◌, nat_lt, true, take}
use Rattle.std.specs.List.{list_all}
use Rattle.kom_letters.proofs.typing.latin1_of.Given as goal

abbrev pub invariant-loop-c : goal.invariant-loop-c
invariant-loop-c l =
    (l.bytes.items ≡ take l.c-index l.letters) × (list_all (λ c. nat_lt c 256) (take l.c-index l.letters) ≡ true)
