-- What the reading of a body's bytes makes of the rows.
use Rattle.std.specs.Prelude.{◌≡◌, ◌<◌, ◌≤◌, ◌+◌, ◌-◌, ℕ, List, [], ◌++◌, length, take, drop}
use Rattle.std.specs.Prelude.{Option, Some, None, true}
use Rattle.kom_types.specs.declared.effects.Effect.{Effect}
use Rattle.kom_model.specs.Db.{Db}
use Rattle.kom_model.specs.Effects.{apply_all, apply, fits}
use Rattle.effect_codec.specs.Coding.{coded_effect, effect_at, IsInRange}
use Rattle.effect_codec.specs.Fields.{Short}
use Rattle.kom_journal.specs.Opening.{BeginsWith, IsUnfit}

-- an effect that fits was made, and so many bytes were its
pub record MakesOne (bytes : List ℕ) (old new : Db) (len : ℕ) : Type 0 where
  pub effect : Effect
  pub whole : bytes ≡ coded_effect effect ++ drop len bytes
  pub coded : IsInRange effect
  pub fit : fits effect old ≡ true
  pub rows : new ≡ apply effect old
  pub within : len ≤ length bytes
  pub some : 0 < len

-- no whole effect is there yet, and nothing was made; or one was made
abbrev pub MakesNext : List ℕ → Db → Db → Option ℕ → Type 0
MakesNext bytes old new None = (effect_at bytes ≡ Short) × (new ≡ old)
MakesNext bytes old new (Some len) = MakesOne bytes old new len

module _ {M : Type 0} (makes : M → M → List ℕ → List ℕ → Type 0) where
  -- what so many of the bytes are was made, whatever follows them
  abbrev pub MakesFirst : List ℕ → M → M → ℕ → Type 0
  MakesFirst bytes old new used = (used ≤ length bytes)
      × ((more : List ℕ) → makes old new (bytes ++ more) (drop used bytes ++ more))

  module _ (refuses : M → List ℕ → Type 0) where
    -- a body that ends with these bytes, and with no more, is none
    abbrev pub LacksMore : M → List ℕ → Type 0
    LacksMore new rest = 0 < length rest → refuses new rest

    -- nothing was made, since more bytes have to come; or a part was, and so many bytes were its
    abbrev pub ComesNext : List ℕ → M → M → Option ℕ → Type 0
    ComesNext bytes old new None =
        ((more : List ℕ) → makes old new (bytes ++ more) (bytes ++ more)) × LacksMore new bytes
    ComesNext bytes old new (Some len) = (0 < len) × MakesFirst bytes old new len

    -- parts were made, and so many bytes were theirs; more have to come after them
    abbrev pub ComesSome : List ℕ → M → M → ℕ → Type 0
    ComesSome bytes old new used =
        MakesFirst bytes old new used × LacksMore new (drop used bytes)

-- the bytes from one place up to another
abbrev pub part : ℕ → ℕ → List ℕ → List ℕ
part at end bytes = take (end - at) (drop at bytes)

-- the effects that bytes begin with were made, and these come after them
pub record MakesPart (bytes rest : List ℕ) (old new : Db) : Type 0 where
  pub effects : List Effect
  pub begins : BeginsWith effects old bytes rest
  pub rows : new ≡ apply_all effects old

-- the effects that the bytes begin with lead from the one rows to the others, and the rest is left:
-- where it makes a body of them, or is unfit, all of the bytes are so
abbrev pub MakesRows : Db → Db → List ℕ → List ℕ → Type 0
MakesRows old new bytes rest =
    ((last : Db) → MakesPart rest [] new last → MakesPart bytes [] old last)
    × (IsUnfit new rest → IsUnfit old bytes)

-- two lengths that are to fall together
abbrev pub FallsTo : ℕ → ℕ → ℕ → ℕ → Type 0
FallsTo left lacking left_after lacking_after = left_after + lacking_after < left + lacking
