-- The aux-items of texts and conferences, as contracts see them.
use Rattle.std.specs.Prelude.{ℕ, ◌+◌, ◌≤◌, Bool, List, Option, find, if◌then◌else◌}
use Rattle.kom_types.specs.declared.aux_items.ItemRow.{ItemRow}
use Rattle.kom_types.specs.tables.AuxItems.{is_item}
use Rattle.row_slots.specs.Lists.{room_in}
use Rattle.aux_items.specs.Objects.{is_same}

-- The items in the order of adding; how many more fit without memory; and the texts, and the
-- conferences, that a list is kept for, each with the room in its list.
pub record Attached : Type 0 where
  pub rows : List ItemRow
  pub spare : ℕ
  pub texts : List (ℕ × ℕ)
  pub conferences : List (ℕ × ℕ)

-- the item of a number on a text, or a conference
abbrev pub item_numbered : Bool → ℕ → ℕ → List ItemRow → Option ItemRow
item_numbered on_text object number rows = find (is_item on_text object number) rows

-- how many more items of a text, or a conference, its list has room for
abbrev pub room_on : Attached → Bool → ℕ → ℕ
room_on table on_text object =
    room_in (if on_text then table.texts else table.conferences) object

-- so many more items of a text, or a conference, need no memory
pub record HasRoom (table : Attached) (on_text : Bool) (object additional : ℕ) : Type 0 where
  pub spare : additional ≤ table.spare
  pub of_object : additional ≤ room_on table on_text object

-- no room falls
pub record KeepsRoom (old new : Attached) : Type 0 where
  pub spare : old.spare ≤ new.spare
  pub of_objects : (kind : Bool) (other : ℕ) → room_on old kind other ≤ room_on new kind other

-- room falls by one at most, and only in all and in the list of the text, or the conference
pub record UsesRoom (old new : Attached) (on_text : Bool) (object : ℕ) : Type 0 where
  pub spare : old.spare ≤ new.spare + 1
  pub of_objects : (kind : Bool) (other : ℕ) → room_on old kind other
      ≤ room_on new kind other + (if is_same on_text object kind other then 1 else 0)
