use Rattle.local_maps.proofs.Pairs.{below-in_chain}
use Rattle.local_maps.proofs.map.LocalMap.append.Goals as goal

pub append-requires : goal.append-requires
append-requires c = record {
  above = below-in_chain c.args.local c.self.inside.chain.pairs (rw (← c.self.view_is) at c.requires.above);
}
