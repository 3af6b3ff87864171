use Rattle.std.proofs.Common.{◌≡◌, ◌<◌, length, ap, arith}
use Rattle.name_lookup.specs.Blocks.{numbers_at}
use Rattle.name_lookup.proofs.BlockLists.{numbers_at-read}
use Rattle.name_lookup.proofs.spots.spot_of.Goals as goal

pub returns-then-offset-len-clause-within : goal.returns-then-offset-len-clause-within
returns-then-offset-len-clause-within c =
    let blocks = c.args.blocks.now in
    let within : c.loop-block.block < length blocks = omega arith in
    let read : numbers_at c.loop-block.block blocks ≡ c.index-blocks-block.result.items =
    numbers_at-read c.loop-block.block blocks c.index-blocks-block.result within c.index-blocks-block.is in
    record {
      block = within;
      offset = omega (arith, ap length read, c.if-offset-len.true, c.len.ensures, c.index-blocks-block.result.ok.0);
    }
