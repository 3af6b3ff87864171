-- Guards before other guards.
use Rattle.std.proofs.Common.{◌≡◌, List, [], ◌∷◌, ◌++◌, Some, None, refl}
use Rattle.kom_model.specs.declared.call_errors.Refused.{Refused}
use Rattle.kom_model.specs.calls.Guards.{Guard, first_refusal}

-- none of the first refuses
pub refusal-after : (guards others : List Guard) → first_refusal guards ≡ None →
    first_refusal (guards ++ others) ≡ first_refusal others
refusal-after [] others none = refl
refusal-after (None ∷ guards) others none = refusal-after guards others none
refusal-after (Some refused ∷ guards) others none = cc

-- one of the first refuses
pub refusal-before : (guards others : List Guard) (refused : Refused) → first_refusal guards ≡ Some refused →
    first_refusal (guards ++ others) ≡ Some refused
refusal-before [] others refused some = cc
refusal-before (None ∷ guards) others refused some = refusal-before guards others refused some
refusal-before (Some first ∷ guards) others refused some = some
