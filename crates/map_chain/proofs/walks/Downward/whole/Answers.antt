use Rattle.std.proofs.Common.{◌-◌, reverse, ap, ◌∙◌, arith}
use denote.RawPtr.{Ptr}
use Rattle.map_chain.specs.Blocks.{PlacedBlocks, pairs_of}
use Rattle.std.proofs.lemmas.List.{take_all}
use Rattle.map_chain.proofs.Seeking.{filled_at}
use Rattle.map_chain.proofs.Walking.{up_to-all}
use Rattle.map_chain.proofs.walks.Downward.whole.Goals as goal

pub invariant_of-result-2 : goal.invariant_of-result-2
invariant_of-result-2 c =
    let bs = c.args.blocks.now in let n = c.requires.1 in let ps = c.block.result.now in let m = c.len-k.ensures.len in
    let p : Ptr = c.last-at.result.ptr in
    record {
      filled = c.requires.0;
      within = omega arith;
      here = λ some. let f = filled_at bs (c.args.i - 1) p ps c.requires.0 c.block.ensures in
          let least = f.0 in (ps, c.block.ensures, omega arith, omega arith);
    }

pub returns : goal.returns
returns c =
    let bs = c.args.blocks.now in let n = c.requires.1 in
    ap reverse (up_to-all bs c.args.i c.last-at.result.ptr c.len-k.result
    (λ some. record { pairs = c.block.result.now; is = c.block.ensures; count = c.len-k.ensures.len })
    ∙ ap (λ (cs : PlacedBlocks). pairs_of cs) (take_all c.args.i bs (omega arith)))
