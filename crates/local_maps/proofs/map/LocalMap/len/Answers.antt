use Rattle.local_maps.proofs.Pairs.{rising-local_text}
use Rattle.local_maps.proofs.map.LocalMap.len.Goals as goal

pub returns-clause-rising : goal.returns-clause-rising
returns-clause-rising c = rw (← c.self.view_is) (rising-local_text c.self.inside.chain.pairs c.len.ensures.rising)
