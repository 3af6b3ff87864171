use Rattle.std.proofs.Common.{refl}
use Rattle.effect_codec.proofs.Puts.{puts_2, amount_put}
use Rattle.effect_codec.proofs.writing.append_recipient.Goals as goal

pub returns-clause-items : goal.returns-clause-items
returns-clause-items c =
    puts_2 _ _ _ _ _ _
    c.put_start.ensures.items
    (amount_put _ _ _ _ c.seconds.ensures.value c.put_amount.ensures.items)
    refl
