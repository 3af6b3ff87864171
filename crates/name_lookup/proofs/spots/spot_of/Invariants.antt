use Rattle.std.proofs.Common.{◌≡◌, ◌+◌}
use Rattle.name_lookup.specs.Blocks.{start_of}
use Rattle.name_lookup.proofs.spots.spot_of.Given as goal

abbrev pub invariant-loop-block : goal.invariant-loop-block
invariant-loop-block l = start_of l.block l.blocks + l.offset ≡ l.place
