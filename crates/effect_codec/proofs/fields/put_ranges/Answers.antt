use Rattle.std.proofs.Common.{rules}
use Rattle.effect_codec.proofs.Puts.{counted_put}
use Rattle.effect_codec.proofs.fields.put_ranges.Goals as goal

pub returns-clause-items : goal.returns-clause-items
returns-clause-items c =
    counted_put _ _ _ _ _ _ (c.requires.length c.put_each_range.ensures.are_ranges) c.put_number.ensures.items
    c.put_each_range.ensures.items (search rules)
