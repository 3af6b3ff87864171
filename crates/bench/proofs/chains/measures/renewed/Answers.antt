use Rattle.std.proofs.Common.{◌+◌, ◌/◌, sym, subst}
use Rattle.map_chain.specs.Pairs.{AllBelow}
use Rattle.map_chain.proofs.Below.{below_push, below_without}
use Rattle.bench.proofs.chains.measures.renewed.Goals as goal

pub append-requires : goal.append-requires
append-requires c =
    let left = below_without c.loop-local.local (c.loop-local.local / 2) c.loop-local.chain.pairs c.loop-local.invariant
    in
    record { above = subst (AllBelow c.loop-local.local) (sym c.remove.ensures.pairs) left }

pub loop-local-preserved : goal.loop-local-preserved
loop-local-preserved c =
    let n = c.loop-local.local in
    let left = below_without n (n / 2) c.loop-local.chain.pairs c.loop-local.invariant in
    subst (AllBelow (n + 1)) (sym c.in-Ok.ensures.ok)
    (below_push n n _ (subst (AllBelow n) (sym c.remove.ensures.pairs) left))
