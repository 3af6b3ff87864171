use Rattle.std.proofs.Common.{refl, arith}
use Rattle.effect_codec.proofs.Puts.{puts_3, amount_put, length-read_set}
use Rattle.effect_codec.proofs.writing.append_read.Goals as goal

pub put_ranges-requires-clause-room : goal.put_ranges-requires-clause-room
put_ranges-requires-clause-room c =
    omega (
      arith,
      length-read_set _ c.args.person c.args.conference c.args.at c.args.ranges.now refl,
    )

pub returns-clause-items : goal.returns-clause-items
returns-clause-items c =
    puts_3 _ _ _ _ _ _ _ _
    c.put_start.ensures.items
    (amount_put _ _ _ _ c.seconds.ensures.value c.put_amount.ensures.items)
    c.put_ranges.ensures.items
    refl
