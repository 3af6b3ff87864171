-- When the local numbers that are kept are those of the rows.
use Rattle.std.specs.Prelude.{◌≡◌, ℕ, List, [], Option, Some, None}
use Rattle.row_table.specs.Tables.{row_of, IsByNumber}
use Rattle.kom_types.specs.declared.texts.LocalText.{LocalText}
use Rattle.kom_types.specs.declared.texts.Recipient.{Recipient}
use Rattle.kom_types.specs.declared.texts.TextRow.{TextRow}
use Rattle.kom_types.specs.tables.Texts.{number_of_text, locals_of, created_by}
use Rattle.local_maps.specs.Maps.{Owned, pairs_of}
use Rattle.local_maps.specs.Pairs.{IsRising, from_on}

-- Each conference's local numbers, and each author's, are kept with their texts, and rise.
pub record IsKept (texts : List TextRow) (recipients : List Recipient) (locals created : Owned)
    : Type 0 where
  pub by_number : IsByNumber number_of_text texts
  pub by_conference : (conference : ℕ)
      → pairs_of locals conference ≡ locals_of conference recipients
  pub by_author : (person : ℕ) → pairs_of created person ≡ created_by person texts
  pub conferences_rise : (conference : ℕ) → IsRising (locals_of conference recipients)
  pub authors_rise : (person : ℕ) → IsRising (created_by person texts)

-- a text of this author is there, and has no number among those of its author
abbrev pub IsUnnumbered : ℕ → ℕ → List TextRow → Type 0
IsUnnumbered author text rows = elim (row_of number_of_text text rows) [
  | None ↦ ⊥
  | Some row ↦ (row.author ≡ author) × (row.created_local ≡ 0)
]

-- what a map gives from a local number on: nothing where no map is kept
abbrev pub IsFrom : Option (List LocalText) → ℕ → List LocalText → Type 0
IsFrom None first pairs = from_on first pairs ≡ []
IsFrom (Some given) first pairs = given ≡ from_on first pairs

-- a text with this next number of an aux-item
abbrev pub with_next_item : ℕ → TextRow → TextRow
with_next_item next row = record row { next_item = next }
