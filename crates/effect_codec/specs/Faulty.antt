-- Bytes that begin a set of read ranges of which one is faulty, before all of them are there.
use Rattle.std.specs.Prelude.{◌≡◌, ℕ, ◌/◌, min, Bool, false, ◌==◌, ◌&&◌, not, List, ◌++◌, length}
use Rattle.std.specs.Prelude.{drop, slice_index}
use Rattle.std.specs.Int.{w32, from_le_bytes}
use Rattle.kom_types.specs.declared.effects.Effect.{Effect}
use Rattle.kom_types.specs.declared.effects.Effect.TheVariants as effect
use Rattle.kom_types.specs.declared.memberships.ReadRange.{ReadRange}
use Rattle.read_ranges.specs.Changed.{rise_after}
use Rattle.effect_codec.specs.Fields.{ranges_of}
use Rattle.effect_codec.specs.Coding.{coded_effect, IsInRange}
use Rattle.effect_codec.specs.Table.{read_set}

-- The ranges that are there, of those that a set declares. Their number stands after the kind, two
-- numbers and a moment.
abbrev pub ranges_there : List ℕ → List ReadRange
ranges_there bytes =
    let declared = from_le_bytes w32 (drop 17 bytes) in
    ranges_of (min declared (length (drop 21 bytes) / 8)) (drop 21 bytes)

-- bytes begin a set of read ranges, and those that are there do not rise
abbrev pub has_faulty_range : List ℕ → Bool
has_faulty_range bytes =
    slice_index bytes 0 == read_set.kind && not (rise_after 0 (ranges_there bytes))

-- an effect is a set of read ranges that do not rise
pub record SetsFaulty (one : Effect) : Type 0 where
  pub person : ℕ
  pub conference : ℕ
  pub at : ℕ
  pub ranges : List ReadRange
  pub is : one ≡ effect.ReadSet person conference at ranges
  pub faulty : rise_after 0 ranges ≡ false

-- an effect whose bytes begin so, whatever follows, is a set of read ranges that do not rise
abbrev pub BeginsFaulty : List ℕ → Type 0
BeginsFaulty bytes = (one : Effect) (more rest : List ℕ) → IsInRange one →
    bytes ++ more ≡ coded_effect one ++ rest → SetsFaulty one
