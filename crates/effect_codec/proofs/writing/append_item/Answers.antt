use Rattle.std.proofs.Common.{refl}
use Rattle.effect_codec.proofs.Puts.{puts_7, amount_put, text_put}
use Rattle.effect_codec.proofs.writing.append_item.Goals as goal

pub returns-clause-items : goal.returns-clause-items
returns-clause-items c =
    puts_7 _ _ _ _ _ _ _ _ _ _ _ _ _ _ _ _
    c.put_byte.ensures.items
    c.put_flag.ensures.items
    c.put_numbers.ensures.items
    (amount_put _ _ _ _ c.seconds.ensures.value c.put_amount.ensures.items)
    c.put_byte-2.ensures.items
    c.put_numbers-2.ensures.items
    (text_put _ _ _ _ c.as_slice.ensures c.put_text.ensures.items)
    refl
