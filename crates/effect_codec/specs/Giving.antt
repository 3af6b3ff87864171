-- What the reader of effects answers.
use Rattle.std.specs.Prelude.{◌≡◌, ◌≤◌, ℕ, List, ◌++◌, length, drop, Option, Some, None}
use Rattle.std.specs.Prelude.{Result, Ok, Err}
use Rattle.kom_types.specs.declared.effects.Effect.{Effect}
use Rattle.effect_codec.specs.declared.reading.ReadError.{ReadError}
use Rattle.effect_codec.specs.declared.reading.ReadError.TheVariants as error
use Rattle.effect_codec.specs.declared.stop.Stop.{Stop}
use Rattle.effect_codec.specs.declared.stop.Stop.TheVariants as stop
use Rattle.effect_codec.specs.Fields.{Read, Whole, Short, Wrong}
use Rattle.effect_codec.specs.Coding.{coded_effect, effect_at, IsInRange}

-- What was read, seen by `view`, and the bytes after it; or why nothing was. That memory ran out
-- may be told of any bytes.
abbrev pub Gives : {X Y : Type 0} → (X → Y) → Read Y → Result X Stop → List ℕ → Type 0
Gives view read (Ok value) rest = read ≡ Whole (view value) rest
Gives view read (Err stop.Short) rest = read ≡ Short
Gives view read (Err stop.Wrong) rest = read ≡ Wrong
Gives view read (Err stop.Memory) rest = Unit {0}

-- the same of a whole effect, and of how many bytes it has
abbrev pub GivesEffect : List ℕ → Result (Option (Effect × ℕ)) ReadError → Type 0
GivesEffect bytes (Ok (Some found)) =
    (effect_at bytes ≡ Whole found.0 (drop found.1 bytes)) × (found.1 ≤ length bytes)
GivesEffect bytes (Ok None) = effect_at bytes ≡ Short
GivesEffect bytes (Err error.Wrong) = effect_at bytes ≡ Wrong
GivesEffect bytes (Err error.Memory) = Unit {0}

-- a whole effect is spelled by the bytes that it has, and its numbers and lengths are in range
abbrev pub SpellsEffect : List ℕ → Result (Option (Effect × ℕ)) ReadError → Type 0
SpellsEffect bytes (Ok (Some found)) =
    (bytes ≡ coded_effect found.0 ++ drop found.1 bytes) × IsInRange found.0
SpellsEffect bytes (Ok None) = Unit {0}
SpellsEffect bytes (Err why) = Unit {0}
