use Rattle.std.proofs.Common.{refl}
use Rattle.map_chain.specs.Links.{with_previous}
use Rattle.map_chain.proofs.Linking.{edit-is}
use Rattle.map_chain.proofs.blocks.set_previous.Goals as goal

pub returns : goal.returns
returns c = (
  edit-is c.args.nodes.now.nodes c.args.i c.args.at.ptr c.get_mut.result.now
      (with_previous c.args.previous) c.get_mut.ensures.value,
  refl,
)
