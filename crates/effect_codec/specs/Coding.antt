-- The bytes of an effect, and what bytes are to the reader of effects.
use Rattle.std.specs.Prelude.{ℕ, List, ◌∷◌, Option, Some}
use Rattle.std.specs.Prelude.{None}
use Rattle.kom_types.specs.declared.effects.Effect.{Effect}
use Rattle.effect_codec.specs.Fields.{Read, Wrong, Values, AreIn, AreShort, coded_fields, made_at}
use Rattle.effect_codec.specs.Fields.{and_then, byte_at}
use Rattle.effect_codec.specs.Table.{Row, row_of, tell_row}

-- the bytes of an effect: its kind, and its fields one after the other
abbrev pub coded_row : (row : Row) → Values row.fields → List ℕ
coded_row row values = row.kind ∷ coded_fields row.fields values

abbrev pub coded_effect : Effect → List ℕ
coded_effect effect = tell_row coded_row effect

-- its numbers, moments and lengths are those that its fields may have
abbrev pub IsInRange : Effect → Type 0
IsInRange effect = tell_row (λ row values. AreIn row.fields values) effect

-- its lengths are
abbrev pub IsShortEnough : Effect → Type 0
IsShortEnough effect = tell_row (λ row values. AreShort row.fields values) effect

-- what bytes are to a row
abbrev pub row_at : Row → List ℕ → Read Effect
row_at row bytes = made_at row.fields row.make bytes

abbrev pub kind_at : Option Row → List ℕ → Read Effect
kind_at None bytes = Wrong
kind_at (Some row) bytes = row_at row bytes

-- what bytes are: an effect, and the bytes after it; too few; or none that begin with an effect,
-- whatever follows them
abbrev pub effect_at : List ℕ → Read Effect
effect_at bytes = and_then (byte_at bytes) (λ kind rest. kind_at (row_of kind) rest)
