-- A list of numbers for each text and each conference, with the room that it has.
use Rattle.std.specs.Prelude.{ℕ, Bool, ◌==◌, ◌&&◌, List, if◌then◌else◌}
use Rattle.kom_types.specs.Bits.{alike}
use Rattle.row_slots.specs.Lists.{list_of, room_of, rooms_of}
use Rattle.row_slots.specs.declared.lists.Lists.{Lists}
use Rattle.aux_items.specs.declared.objects.ObjectLists.{ObjectLists}

-- the lists of texts, or of conferences
abbrev pub lists_of : ObjectLists → Bool → Lists
lists_of lists on_text = if on_text then lists.texts else lists.conferences

-- the list of a text, or a conference
abbrev pub list_at : ObjectLists → Bool → ℕ → List ℕ
list_at lists on_text object = list_of (lists_of lists on_text) object

-- how many more numbers fit into it without memory
abbrev pub room_at : ObjectLists → Bool → ℕ → ℕ
room_at lists on_text object = room_of (lists_of lists on_text) object

-- the texts, or the conferences, that a list is kept for, each with its room
abbrev pub rooms_at : ObjectLists → Bool → List (ℕ × ℕ)
rooms_at lists on_text = rooms_of (lists_of lists on_text)

-- whether this object is another one
abbrev pub is_same : Bool → ℕ → Bool → ℕ → Bool
is_same on_text object other_on_text other = alike on_text other_on_text && object == other
