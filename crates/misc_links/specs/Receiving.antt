-- When the lists of places are those of the recipients in the slots.
use Rattle.std.specs.Prelude.{◌≡◌, ◌≤◌, ℕ, Bool, false, ◌==◌, List, Option, filter, length}
use Rattle.std.specs.Prelude.{slice_get}
use Rattle.std.specs.Option.{option_flatten, option_map_or}
use Rattle.kom_types.specs.declared.texts.Recipient.{Recipient}
use Rattle.kom_types.specs.tables.Texts.{is_recipient}
use Rattle.row_slots.specs.Slots.{rows_in, places_of}

-- whether this is a recipient of this text
abbrev pub is_of : ℕ → Recipient → Bool
is_of text row = row.text == text

-- whether this conference is the recipient at a place
abbrev pub is_conference_at : List (Option Recipient) → ℕ → ℕ → Bool
is_conference_at slots conference place =
    option_map_or (λ row. row.conference == conference)
    (option_flatten (slice_get slots place)) false

-- Slots with the places of the recipients of each text.
pub record IsKept (slots : List (Option Recipient)) (places : ℕ → List ℕ) : Type 0 where
  pub listed : (text : ℕ) → places text ≡ places_of (is_of text) slots
  -- no text has a conference twice
  pub once : (text conference : ℕ)
      → length (filter (is_recipient text conference) (rows_in slots)) ≤ 1
