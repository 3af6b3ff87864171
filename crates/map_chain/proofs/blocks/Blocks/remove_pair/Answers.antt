use Rattle.std.specs.List.{remove}
use Rattle.map_chain.proofs.Linking.{had_at, block_at, still_linked, blocks_put}
use Rattle.map_chain.proofs.blocks.Blocks.remove_pair.Goals as goal

pub get_mut-requires : goal.get_mut-requires
get_mut-requires c = had_at c.self.inside.nodes.nodes c.args.self.now c.self.view_is c.args.i c.args.at.ptr
    c.requires.place

pub remove-requires : goal.remove-requires
remove-requires c =
    let x = c.get_mut.result.now in
    c.requires.within x.block
    (block_at c.self.inside.nodes.nodes c.args.self.now c.self.view_is c.args.i c.args.at.ptr x c.get_mut.ensures.value)

pub invariant_of-self : goal.invariant_of-self
invariant_of-self c =
    let s = c.self.inside in
    still_linked s.first.ptr s.last.ptr s.count s.nodes.nodes c.args.i c.args.at.ptr c.get_mut.result.now
    (λ ps. remove ps c.args.k) c.remove.new.self c.self.invariant c.get_mut.ensures.value c.remove.ensures

pub returns : goal.returns
returns c =
    blocks_put c.self.inside.nodes.nodes c.args.self.now c.args.i c.args.at.ptr c.get_mut.result.now
    (λ ps. remove ps c.args.k) c.remove.new.self c.self.view_is c.get_mut.ensures.value c.remove.ensures
