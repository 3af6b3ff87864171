-- The reply among what was given.
use Rattle.std.proofs.Common.{◌≡◌, ℕ, List, [], ◌∷◌, ◌++◌, Option, Some, None, refl, ap, ◌∙◌}
use Rattle.std.specs.Option.{option_or}
use Rattle.kom_types.specs.declared.items.Item.{Item}
use Rattle.kom_types.specs.declared.replies.Reply.{Reply}
use Rattle.kom_sweep.specs.Told.{reply_of, reply_in}

or_none : (o : Option Reply) → o ≡ option_or o None
or_none None = refl
or_none (Some reply) = refl

or_assoc : (o p q : Option Reply) → option_or (option_or o p) q ≡ option_or o (option_or p q)
or_assoc None p q = refl
or_assoc (Some reply) p q = refl

-- with one more at the end
pub reply_in_push : (reference : ℕ) (items : List Item) (item : Item) →
    reply_in reference (items ++ item ∷ []) ≡ option_or (reply_of reference item) (reply_in reference items)
reply_in_push reference [] item = or_none (reply_of reference item)
reply_in_push reference (first ∷ items) item =
    ap (λ o. option_or o (reply_of reference first)) (reply_in_push reference items item)
    ∙ or_assoc (reply_of reference item) (reply_in reference items) (reply_of reference first)
