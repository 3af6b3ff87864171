use Rattle.std.proofs.Common.{[], ◌∷◌, length, ap, ◌∙◌, arith}
use Rattle.std.proofs.lemmas.List.{length-append}
use Rattle.map_chain.specs.Blocks.{PlacedBlocks}
use Rattle.map_chain.proofs.Growing.{stocked-link}
use Rattle.map_chain.proofs.chain.stock.Goals as goal

pub loop-alloc-init : goal.loop-alloc-init
loop-alloc-init c = record { kept = omega arith; few = omega arith }

pub returns-in_err-node-clause-kept : goal.returns-in_err-node-clause-kept
returns-in_err-node-clause-kept c = c.loop-alloc.invariant.kept

pub returns-in_err-node-clause-few : goal.returns-in_err-node-clause-few
returns-in_err-node-clause-few c = c.loop-alloc.invariant.few

pub loop-alloc-smaller : goal.loop-alloc-smaller
loop-alloc-smaller c =
    let more = ap (λ (l : PlacedBlocks). length l) c.link.ensures
    ∙ length-append c.loop-alloc.spare ((c.link.result.ptr, []) ∷ []) in
    let len = c.len.ensures.len in let less = c.loop-alloc-test.true in omega arith

pub loop-alloc-preserved : goal.loop-alloc-preserved
loop-alloc-preserved c =
    stocked-link c.args.spare.now c.loop-alloc.spare c.link.new.self c.link.result.ptr c.args.blocks
    c.loop-alloc.invariant
    (let len = c.len.ensures.len in let less = c.loop-alloc-test.true in omega arith) c.link.ensures

pub returns-clause-kept : goal.returns-clause-kept
returns-clause-kept c = c.loop-alloc.invariant.kept

pub returns-clause-few : goal.returns-clause-few
returns-clause-few c = c.loop-alloc.invariant.few
