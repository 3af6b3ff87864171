-- The room that rows need.
use Rattle.std.specs.Prelude.{ℕ, ◌+◌, ◌≤◌, Bool, false, ◌==◌, ◌&&◌, List, [], ◌∷◌, count_by}
use Rattle.kom_types.specs.Bits.{alike}
use Rattle.kom_types.specs.declared.texts.TextLink.{TextLink}
use Rattle.kom_types.specs.declared.texts.MarkRow.{MarkRow}
use Rattle.kom_types.specs.declared.texts.Recipient.{Recipient}
use Rattle.local_maps.specs.Maps.{room_of}
use Rattle.marks.specs.Marked.{room_of_person, room_on}
use Rattle.misc_links.specs.Linked.{room_from, room_into}
use Rattle.misc_links.specs.Received.{room_of_text}
use Rattle.texts.specs.declared.needs.Need.{Need}
use Rattle.texts.specs.declared.needs.Need.TheVariants as need
use Rattle.texts.specs.Stored.{Room}

-- how many more rows can have what they need of this
abbrev pub room_for : Room → Need → ℕ
room_for room need.Text = room.texts
room_for room need.Recipient = room.recipients.spare
room_for room (need.RecipientOf text) = room_of_text room.recipients text
room_for room (need.Local conference) = room_of room.locals conference
room_for room need.Link = room.links.spare
room_for room (need.LinkFrom text footnote) = room_from room.links text footnote
room_for room (need.LinkInto text footnote) = room_into room.links text footnote
room_for room need.Mark = room.marks.spare
room_for room (need.MarkOf person) = room_of_person room.marks person
room_for room (need.MarkOn text) = room_on room.marks text
room_for room (need.Created person) = room_of room.created person

-- what a text needs; a recipient; a link; a mark; and a number of a text among those of its author
abbrev pub text_needs : List Need
text_needs = need.Text ∷ []

abbrev pub recipient_needs : Recipient → List Need
recipient_needs given =
    need.Recipient ∷ need.RecipientOf given.text ∷ need.Local given.conference ∷ []

abbrev pub link_needs : TextLink → List Need
link_needs given =
    need.Link ∷ need.LinkFrom given.child given.footnote
    ∷ need.LinkInto given.parent given.footnote ∷ []

abbrev pub mark_needs : MarkRow → List Need
mark_needs given = need.Mark ∷ need.MarkOf given.person ∷ need.MarkOn given.text ∷ []

abbrev pub created_needs : ℕ → List Need
created_needs person = need.Created person ∷ []

-- whether two needs are the same
abbrev pub same : Need → Need → Bool
same need.Text need.Text = 0 == 0
same need.Recipient need.Recipient = 0 == 0
same (need.RecipientOf text) (need.RecipientOf other) = text == other
same (need.Local conference) (need.Local other) = conference == other
same need.Link need.Link = 0 == 0
same (need.LinkFrom text footnote) (need.LinkFrom other kind) = text == other && alike footnote kind
same (need.LinkInto text footnote) (need.LinkInto other kind) = text == other && alike footnote kind
same need.Mark need.Mark = 0 == 0
same (need.MarkOf person) (need.MarkOf other) = person == other
same (need.MarkOn text) (need.MarkOn other) = text == other
same (need.Created person) (need.Created other) = person == other
same one other = false

-- how often something is needed
abbrev pub count_of : Need → List Need → ℕ
count_of need needs = count_by (same need) needs

-- there is room for all that is needed
abbrev pub HasRoom : Room → List Need → Type 0
HasRoom room needs = (need : Need) → count_of need needs ≤ room_for room need

-- no room falls
abbrev pub KeepsRoom : Room → Room → Type 0
KeepsRoom old new = (need : Need) → room_for old need ≤ room_for new need

-- room falls by what was needed at most
abbrev pub UsesRoom : Room → Room → List Need → Type 0
UsesRoom old new needs = (need : Need) → room_for old need ≤ room_for new need + count_of need needs
