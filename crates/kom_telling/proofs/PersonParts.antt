-- The parts of a person, joined from those that are told.
use Rattle.std.proofs.Common.{◌≡◌, List, [], ◌∷◌, ◌++◌, map, sym, ap, ◌∙◌, append_assoc, append-nil}
use Rattle.std.proofs.lemmas.List.{map-append}
use Rattle.kom_types.specs.Parts.{Part, Makes}
use Rattle.kom_types.specs.declared.effects.Effect.{Effect}

pub person-parts : (added : Effect) (area : List Effect) (password : Effect) (login counts : List Effect) →
    (Makes added ∷ []) ++ (map Makes area ++ ((Makes password ∷ []) ++ (map Makes login ++ map Makes counts)))
    ≡ map Makes (added ∷ area ++ password ∷ login ++ counts)
person-parts added area password login counts =
    sym (map-append Makes (added ∷ area ++ password ∷ login) counts
    ∙ ap (λ (l : List Part). l ++ map Makes counts) (map-append Makes (added ∷ area) (password ∷ login))
    ∙ append_assoc (map Makes (added ∷ area)) (map Makes (password ∷ login)) (map Makes counts))

pub count-parts : (a b c d e f g : List Effect) →
    map Makes a ++ (map Makes b ++ (map Makes c ++ (map Makes d ++ (map Makes e ++ (map Makes f ++
    (map Makes g ++ []))))))
    ≡ map Makes (a ++ b ++ c ++ d ++ e ++ f ++ g)
count-parts a b c d e f g = simp (map-append, append_assoc, append-nil)
