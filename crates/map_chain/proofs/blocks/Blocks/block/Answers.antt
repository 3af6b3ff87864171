use Rattle.map_chain.proofs.Linking.{had_at, block_at}
use Rattle.map_chain.proofs.blocks.Blocks.block.Goals as goal

pub get-requires : goal.get-requires
get-requires c = had_at c.self.inside.nodes.nodes c.args.self.now c.self.view_is c.args.i c.args.at.ptr c.requires

pub returns : goal.returns
returns c = block_at c.self.inside.nodes.nodes c.args.self.now c.self.view_is c.args.i c.args.at.ptr c.get.result.now
    c.get.ensures
