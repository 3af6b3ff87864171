-- A list of numbers for each text and each kind of link, with the room that it has.
use Rattle.std.specs.Prelude.{ℕ, Bool, ◌==◌, ◌&&◌, List, if◌then◌else◌}
use Rattle.kom_types.specs.Bits.{alike}
use Rattle.row_slots.specs.Lists.{list_of, room_of, rooms_of}
use Rattle.row_slots.specs.declared.lists.Lists.{Lists}
use Rattle.misc_links.specs.declared.kinds.KindLists.{KindLists}

-- the lists of one kind
abbrev pub lists_of : KindLists → Bool → Lists
lists_of lists footnote = if footnote then lists.footnotes else lists.comments

-- the list of a text
abbrev pub list_at : KindLists → ℕ → Bool → List ℕ
list_at lists text footnote = list_of (lists_of lists footnote) text

-- how many more numbers fit into it without memory
abbrev pub room_at : KindLists → ℕ → Bool → ℕ
room_at lists text footnote = room_of (lists_of lists footnote) text

-- the texts that a list of this kind is kept for, each with its room
abbrev pub rooms_at : KindLists → Bool → List (ℕ × ℕ)
rooms_at lists footnote = rooms_of (lists_of lists footnote)

-- whether the list of this text and kind is that of another text and kind
abbrev pub is_same : ℕ → Bool → ℕ → Bool → Bool
is_same text footnote other kind = text == other && alike footnote kind
