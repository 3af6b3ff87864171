use Rattle.std.proofs.Common.{◌≡◌, ◌+◌, take, drop}
use Rattle.std.specs.List.{remove}
use Rattle.map_chain.proofs.block.close_gap.Given as goal

abbrev pub invariant-loop-j : goal.invariant-loop-j
invariant-loop-j l = record {
  moved : take l.j l.pairs ≡ remove (take (l.j + 1) l.fn.pairs) l.k;
  left : drop (l.j + 1) l.pairs ≡ drop (l.j + 1) l.fn.pairs;
}
