use Rattle.std.proofs.Common.{◌≡◌}
use Rattle.name_lookup.specs.Blocks.{start_of}
use Rattle.name_lookup.proofs.spots.count_in.Given as goal

abbrev pub invariant-loop-numbers : goal.invariant-loop-numbers
invariant-loop-numbers l = l.count ≡ start_of l.numbers-index l.blocks
