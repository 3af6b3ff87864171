-- What a sink takes of the parts that it is told.
use Rattle.std.specs.Prelude.{List, ◌++◌}
use Rattle.kom_types.specs.Parts.{Part}

-- a sink that had taken some parts has taken these after them
pub record Takes {S : Type 0} (took : S → List Part → Type 0) (old new : S) (parts : List Part)
    : Type 0 where
  pub takes : (before : List Part) → took old before → took new (before ++ parts)

-- what came of a sink so far comes of it still
abbrev pub Keeps : {S : Type 0} → (S → S → Type 0) → S → S → Type 0
Keeps {S} becomes old new = (first : S) → becomes first old → becomes first new
