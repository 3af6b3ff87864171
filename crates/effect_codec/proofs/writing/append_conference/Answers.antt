use Rattle.std.proofs.Common.{refl}
use Rattle.effect_codec.proofs.Puts.{puts_5, amount_put}
use Rattle.effect_codec.proofs.writing.append_conference.Goals as goal

pub returns-clause-items : goal.returns-clause-items
returns-clause-items c =
    puts_5 _ _ _ _ _ _ _ _ _ _ _ _
    c.put_start.ensures.items
    c.put_text.ensures.items
    c.put_byte.ensures.items
    (amount_put _ _ _ _ c.seconds.ensures.value c.put_amount.ensures.items)
    c.put_numbers.ensures.items
    refl
