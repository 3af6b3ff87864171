use Rattle.std.proofs.Common.{sym, ap, ◌∙◌, length}
use Rattle.name_lookup.proofs.BlockLists.{numbers_at-read}
use Rattle.name_lookup.proofs.spots.numbers_of.Goals as goal

pub returns-clause-numbers : goal.returns-clause-numbers
returns-clause-numbers c =
    c.as_slice.ensures.value
    ∙ sym (numbers_at-read c.args.block c.args.blocks.now c.index-blocks-block.result c.requires
    c.index-blocks-block.is)

pub returns-clause-len : goal.returns-clause-len
returns-clause-len c =
    ap length (c.as_slice.ensures.value
    ∙ sym (numbers_at-read c.args.block c.args.blocks.now c.index-blocks-block.result c.requires
    c.index-blocks-block.is))
