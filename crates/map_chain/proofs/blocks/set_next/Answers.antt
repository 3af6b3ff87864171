use Rattle.std.proofs.Common.{refl}
use Rattle.map_chain.specs.Links.{with_next}
use Rattle.map_chain.proofs.Linking.{edit-is}
use Rattle.map_chain.proofs.blocks.set_next.Goals as goal

pub returns : goal.returns
returns c = (
  edit-is c.args.nodes.now.nodes c.args.i c.args.at.ptr c.get_mut.result.now
      (with_next c.args.next) c.get_mut.ensures.value,
  refl,
)
