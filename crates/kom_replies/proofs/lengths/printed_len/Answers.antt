use Rattle.std.proofs.Common.{◌∙◌}
use Rattle.kom_replies.proofs.ItemWords.{item_measured}
use Rattle.kom_replies.proofs.lengths.printed_len.Goals as goal

pub returns : goal.returns
returns c = let whole = c.in-Ok.ensures.ok ∙ item_measured c.args.item.now in cc
