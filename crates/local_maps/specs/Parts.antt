-- Parts of the texts, as they are told.
use Rattle.std.specs.Prelude.{◌≡◌, ℕ, ◌^◌, Bool, List, length, nat_lt, take, if◌then◌else◌}
use Rattle.kom_types.specs.declared.texts.LocalText.{LocalText}
use Rattle.kom_types.specs.declared.texts.Mapping.{Mapping}
use Rattle.kom_types.specs.Mappings.{mapping_up, block_of, first_of}
use Rattle.local_maps.specs.Pairs.{AllBelow, IsRising, from_on}

-- Of pairs that are shown by rising local numbers, these are the first `count` from this local
-- number on, and it is said whether there are more.
pub record AreTaken (shown : List LocalText) (first count : ℕ) (taken : List LocalText)
    (later : Bool) : Type 0 where
  pub pairs : taken ≡ take count (from_on first shown)
  pub more : later ≡ nat_lt count (length (from_on first shown))
  pub rising : IsRising shown
  pub fits : AllBelow (2 ^ 32) shown

-- the mapping upwards of whatever is shown, if these were taken of it
abbrev pub IsMappingOf : List LocalText → Bool → ℕ → ℕ → Mapping → Type 0
IsMappingOf taken later next first mapping =
    (shown : List LocalText) (count : ℕ) → AreTaken shown first count taken later
    → mapping ≡ mapping_up shown next first count

-- the mapping downwards from this end, of the pairs that were taken
abbrev pub mapping_below : List LocalText → Bool → ℕ → Mapping
mapping_below taken later end = record {
  begin = if later then first_of end taken else 1;
  end = end;
  later_texts_exist = later;
  block = block_of taken;
}
