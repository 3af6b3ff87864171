-- The effects that the bytes of a body spell.
use Rattle.std.specs.Prelude.{◌≡◌, ℕ, zero, suc, List, [], ◌∷◌, length}
use Rattle.std.specs.List.{AllByRecursion}
use Rattle.kom_types.specs.declared.effects.Effect.{Effect}
use Rattle.effect_codec.specs.Coding.{effect_at, IsInRange}
use Rattle.effect_codec.specs.Fields.{Read, Whole, Short, Wrong}
use Rattle.kom_journal.specs.Files.{body_of}

-- an effect, and then what the bytes after it spell
abbrev pub and_after : Read Effect → (List ℕ → List Effect) → List Effect
and_after (Whole effect rest) after = effect ∷ after rest
and_after Short after = []
and_after Wrong after = []

-- the effects that bytes begin with, at most so many of them
unfoldable pub first_effects : ℕ → List ℕ → List Effect
first_effects zero bytes = []
first_effects (suc more) bytes = and_after (effect_at bytes) (first_effects more)

-- the effects of a body: none has fewer bytes than one
unfoldable pub effects_in : List ℕ → List Effect
effects_in body = first_effects (length body) body

-- a body is that of its effects, and their numbers and lengths are in range
pub record IsSpelled (body : List ℕ) : Type 0 where
  pub whole : body ≡ body_of (effects_in body)
  pub coded : AllByRecursion IsInRange (effects_in body)
