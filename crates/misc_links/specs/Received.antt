-- Recipients, as contracts see them.
use Rattle.std.specs.Prelude.{ℕ, ◌+◌, ◌≤◌, ◌==◌, List, if◌then◌else◌}
use Rattle.std.specs.List.{IsDistinct}
use Rattle.kom_types.specs.declared.texts.Recipient.{Recipient}
use Rattle.kom_types.specs.tables.Texts.{is_recipient}
use Rattle.row_slots.specs.DenseLists.{DenseRooms, dense_room_in}

-- The recipients in the order of adding; how many more fit without memory; and the room of each
-- text's list.
pub record Received : Type 0 where
  pub recipients : List Recipient
  pub spare : ℕ
  pub texts : DenseRooms

-- how many more recipients of a text its list has room for
abbrev pub room_of_text : Received → ℕ → ℕ
room_of_text table text = dense_room_in table.texts text

-- no text has a conference twice
abbrev pub AreOnce : List Recipient → Type 0
AreOnce rows = IsDistinct (λ one. is_recipient one.text one.conference) rows

-- one more recipient needs no memory
pub record HasRoom (table : Received) (text : ℕ) : Type 0 where
  pub spare : 1 ≤ table.spare
  pub of_text : 1 ≤ room_of_text table text

-- no room falls
pub record KeepsRoom (old new : Received) : Type 0 where
  pub spare : old.spare ≤ new.spare
  pub texts : (text : ℕ) → room_of_text old text ≤ room_of_text new text

-- room falls by one at most, and only in all and in the text's list
pub record UsesRoom (old new : Received) (text : ℕ) : Type 0 where
  pub spare : old.spare ≤ new.spare + 1
  pub texts : (other : ℕ) → room_of_text old other
      ≤ room_of_text new other + (if text == other then 1 else 0)
