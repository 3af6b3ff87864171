-- When the lists of places are those of the links in the slots.
use Rattle.std.specs.Prelude.{◌≡◌, ◌≤◌, ℕ, Bool, false, ◌==◌, ◌&&◌, List, Option, filter, length}
use Rattle.std.specs.Prelude.{slice_get}
use Rattle.std.specs.Option.{option_flatten, option_map_or}
use Rattle.kom_types.specs.Bits.{alike}
use Rattle.kom_types.specs.declared.texts.TextLink.{TextLink}
use Rattle.kom_types.specs.tables.Texts.{is_link}
use Rattle.row_slots.specs.Slots.{rows_in, places_of}

-- whether a link is of this kind, and from this text
abbrev pub is_from : ℕ → Bool → TextLink → Bool
is_from text footnote row = row.child == text && alike row.footnote footnote

-- whether a link is of this kind, and into this text
abbrev pub is_into : ℕ → Bool → TextLink → Bool
is_into text footnote row = row.parent == text && alike row.footnote footnote

-- whether a link into this text is at a place
abbrev pub is_parent_at : List (Option TextLink) → ℕ → ℕ → Bool
is_parent_at slots parent place =
    option_map_or (λ row. row.parent == parent) (option_flatten (slice_get slots place)) false

-- whether a link from this text is at a place
abbrev pub is_child_at : List (Option TextLink) → ℕ → ℕ → Bool
is_child_at slots child place =
    option_map_or (λ row. row.child == child) (option_flatten (slice_get slots place)) false

-- the link at a place
abbrev pub link_at : List (Option TextLink) → ℕ → Option TextLink
link_at slots place = option_flatten (slice_get slots place)

-- Slots with the places of the links from and into each text, of each kind.
pub record IsKept (slots : List (Option TextLink)) (from into : ℕ → Bool → List ℕ) : Type 0 where
  pub listed_from : (text : ℕ) (footnote : Bool)
      → from text footnote ≡ places_of (is_from text footnote) slots
  pub listed_into : (text : ℕ) (footnote : Bool)
      → into text footnote ≡ places_of (is_into text footnote) slots
  -- no link is there twice
  pub once : (child parent : ℕ) (footnote : Bool)
      → length (filter (is_link child parent footnote) (rows_in slots)) ≤ 1
