use Rattle.std.proofs.Common.{refl}
use Rattle.effect_codec.proofs.Puts.{puts_3, amount_put}
use Rattle.effect_codec.proofs.writing.append_login.Goals as goal

pub returns-clause-items : goal.returns-clause-items
returns-clause-items c =
    puts_3 _ _ _ _ _ _ _ _
    c.put_start.ensures.items
    (amount_put _ _ _ _ c.seconds.ensures.value c.put_amount.ensures.items)
    c.put_text.ensures.items
    refl
