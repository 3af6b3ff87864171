use Rattle.std.proofs.Common.{◌≡◌, ℕ, List, [], ◌∷◌, ◌++◌, refl, ap, ◌∙◌}
use Rattle.effect_codec.proofs.Puts.{puts_4}
use Rattle.effect_codec.proofs.raised.append_raised.Goals as goal

byte_put : (before after : List ℕ) (given is : ℕ) → given ≡ is → after ≡ before ++ given ∷ []
    → after ≡ before ++ is ∷ []
byte_put before after given is same put = put ∙ ap (λ (n : ℕ). before ++ n ∷ []) same

pub returns-clause-items : goal.returns-clause-items
returns-clause-items c =
    puts_4 _ _ _ _ _ _ _ _ _ _
    c.put_byte.ensures.items
    (byte_put _ _ _ _ c.raised_number.ensures c.put_byte-2.ensures.items)
    c.put_numbers.ensures.items
    c.put_amount.ensures.items
    refl
