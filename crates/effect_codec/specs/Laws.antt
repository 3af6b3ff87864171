-- What holds of the bytes of effects.
use Rattle.std.specs.Prelude.{◌≡◌, ◌≢◌, ℕ, ◌<◌, List, [], ◌++◌, slice_index}
use Rattle.kom_types.specs.declared.effects.Effect.{Effect}
use Rattle.effect_codec.specs.Fields.{Whole, Short, Wrong}
use Rattle.effect_codec.specs.Coding.{coded_effect, effect_at, IsInRange}

-- each number is one of a byte
abbrev pub AreBytes : List ℕ → Type 0
AreBytes bytes = (place : ℕ) → slice_index bytes place < 256

-- The bytes of an effect are read as that effect, whatever follows them.
abbrev pub ReadsAgain : Type 0
ReadsAgain = (effect : Effect) (rest : List ℕ) → IsInRange effect →
    effect_at (coded_effect effect ++ rest) ≡ Whole effect rest

-- No effect's bytes begin another's, and two effects have other bytes.
abbrev pub BeginsNoOther : Type 0
BeginsNoOther = (one other : Effect) (after_one after_other : List ℕ) →
    IsInRange one → IsInRange other →
    coded_effect one ++ after_one ≡ coded_effect other ++ after_other →
    (one ≡ other) × (after_one ≡ after_other)

-- What lacks some of an effect's bytes is too short, until all of them are there.
abbrev pub StaysShort : Type 0
StaysShort = (effect : Effect) (bytes missing : List ℕ) → IsInRange effect → missing ≢ [] →
    coded_effect effect ≡ bytes ++ missing → effect_at bytes ≡ Short

-- What is read as an effect begins with the bytes of that effect.
abbrev pub IsSpelled : Type 0
IsSpelled = (effect : Effect) (bytes rest : List ℕ) → AreBytes bytes →
    effect_at bytes ≡ Whole effect rest →
    (bytes ≡ coded_effect effect ++ rest) × IsInRange effect

-- What is too short lacks some of an effect's bytes.
abbrev pub GoesOn : Type 0
GoesOn = (bytes : List ℕ) → AreBytes bytes → effect_at bytes ≡ Short →
    (effect : Effect) × (missing : List ℕ) × IsInRange effect
    × (coded_effect effect ≡ bytes ++ missing)

-- What is wrong begins with no effect's bytes, whatever follows it.
abbrev pub StaysWrong : Type 0
StaysWrong = (effect : Effect) (bytes more rest : List ℕ) → IsInRange effect →
    effect_at bytes ≡ Wrong → bytes ++ more ≢ coded_effect effect ++ rest
