-- What follows from what an image stands for.
use Rattle.std.specs.Prelude.{◌≡◌, ℕ, true, List}
use Rattle.std.specs.List.{AllByRecursion}
use Rattle.kom_types.specs.declared.effects.Effect.{Effect}
use Rattle.effect_codec.specs.Coding.{IsInRange, IsShortEnough}
use Rattle.kom_model.specs.Db.{Db}
use Rattle.kom_model.specs.Effects.{fits}
use Rattle.kom_journal.specs.Files.{body_of}
use Rattle.kom_journal.specs.Images.{Image, StandsFor, IsDamaged}
use Rattle.kom_journal.specs.Pending.{effects_in}

-- an image stands for one state of the rows
abbrev pub StandsForOne : Type 0
StandsForOne =
    (image : Image) (db other : Db) → StandsFor db image → StandsFor other image → db ≡ other

-- one that stands for rows is not damaged
abbrev pub StandsUndamaged : Type 0
StandsUndamaged =
    (image : Image) (db : Db) (place : ℕ) → StandsFor db image → IsDamaged place image → ⊥

-- one that is damaged is so at one place alone
abbrev pub IsDamagedOnce : Type 0
IsDamagedOnce =
    (image : Image) (place other : ℕ) → IsDamaged place image → IsDamaged other image
    → place ≡ other

-- the effects that wait are those that were coded
abbrev pub SpellsAgain : Type 0
SpellsAgain = (effects : List Effect) → AllByRecursion IsInRange effects
    → effects_in (body_of effects) ≡ effects

-- an effect that fits has lengths that can be told
abbrev pub FitsShort : Type 0
FitsShort = (effect : Effect) (db : Db) → fits effect db ≡ true → IsShortEnough effect
