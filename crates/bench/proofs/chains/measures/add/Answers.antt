use Rattle.std.proofs.Common.{sym, ◌∙◌}
use Rattle.map_chain.proofs.Below.{below_none}
use Rattle.bench.proofs.chains.measures.add.Goals as goal

pub append-requires : goal.append-requires
append-requires c =
    record {
      above = below_none c.args.local c.args.chain.now.pairs
          (sym c.from.ensures.pairs ∙ c.in-None.ensures.steps.0);
    }
