use Rattle.std.proofs.Common.{sym, ap, subst, ◌+◌, ◌∷◌, [], length, length-append, arith}
use Rattle.map_chain.specs.Pairs.{AllBelow}
use Rattle.map_chain.proofs.Below.{below_push}
use Rattle.bench.proofs.chains.measures.filled.Goals as goal

pub loop-local-preserved : goal.loop-local-preserved
loop-local-preserved c =
    let n = c.loop-local.local in
    let pairs = c.loop-local.chain.pairs in
    let pushed = c.in_ok-append.ensures.ok in
    let more = length-append pairs ((n, n) ∷ []) in (
      subst (AllBelow (n + 1)) (sym pushed) (below_push n n pairs c.loop-local.invariant.0),
      omega (arith, ap length pushed, more, c.loop-local.invariant.1),
    )
