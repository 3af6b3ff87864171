-- Texts, and what they are linked to: rows in the order of adding. (Protocol A, "Texts" and
-- "Misc-Info".)
use Rattle.std.specs.Prelude.{ℕ, ◌+◌, Bool, ◌==◌, ◌&&◌, not, nat_lt, count_by}
use Rattle.std.specs.Prelude.{List, [], ◌∷◌, ◌++◌, map, filter, find, fold, Option, is_some}
use Rattle.std.specs.Prelude.{if◌then◌else◌}
use Rattle.kom_types.specs.Bits.{alike}
use Rattle.kom_types.specs.declared.texts.TextLink.{TextLink}
use Rattle.kom_types.specs.declared.texts.LocalText.{LocalText}
use Rattle.kom_types.specs.declared.texts.Mark.{Mark}
use Rattle.kom_types.specs.declared.texts.MarkRow.{MarkRow}
use Rattle.kom_types.specs.declared.texts.Recipient.{Recipient}
use Rattle.kom_types.specs.declared.texts.TextRow.{TextRow}

-- by what a text is found
abbrev pub number_of_text : TextRow → ℕ
number_of_text row = row.number

-- how many lines a body has: each ends at a line feed
abbrev pub lines_of : List ℕ → ℕ
lines_of body = count_by (λ byte. byte == 10) body

-- a text as it is made
abbrev pub fresh_text : ℕ → ℕ → ℕ → List ℕ → TextRow
fresh_text number author at body = record {
  number = number;
  author = author;
  created = at;
  body = body;
  lines = lines_of body;
  created_local = 0;
  next_item = 1;
}

-- with a number among the texts that its author made
abbrev pub with_created_local : ℕ → TextRow → TextRow
with_created_local local row = record row { created_local = local }

-- with the number of an aux-item drawn, and so all before it
abbrev pub with_item_drawn : ℕ → TextRow → TextRow
with_item_drawn number row = record row { next_item = number + 1 }

-- whether this is what makes a conference a recipient of a text
abbrev pub is_recipient : ℕ → ℕ → Recipient → Bool
is_recipient text conference row = row.text == text && row.conference == conference

abbrev pub recipient_of : ℕ → ℕ → List Recipient → Option Recipient
recipient_of text conference rows = find (is_recipient text conference) rows

-- the recipients of a text, in the order of adding
abbrev pub recipients_of : ℕ → List Recipient → List Recipient
recipients_of text rows = filter (λ row. row.text == text) rows

-- a recipient is taken away
abbrev pub without_recipient : ℕ → ℕ → List Recipient → List Recipient
without_recipient text conference rows = filter (λ row. not (is_recipient text conference row)) rows

-- the local numbers of a conference, with their texts: they rise as they are drawn
abbrev pub locals_of : ℕ → List Recipient → List LocalText
locals_of conference rows =
    map (λ row. record { local = row.local; text = row.text })
    (filter (λ row. row.conference == conference) rows)

-- a local number among others by its size
abbrev pub by_local : LocalText → List LocalText → List LocalText
by_local pair [] = pair ∷ []
by_local pair (first ∷ pairs) =
    if nat_lt pair.local first.local then pair ∷ first ∷ pairs else first ∷ by_local pair pairs

abbrev pub rising_locals : List LocalText → List LocalText
rising_locals pairs = fold (λ sorted pair. by_local pair sorted) [] pairs

-- whether a text has a number among those that this person made
abbrev pub is_created_by : ℕ → TextRow → Bool
is_created_by person row = row.author == person && nat_lt 0 row.created_local

-- the number of a text among those that its author made, with the text
abbrev pub created_pair : TextRow → LocalText
created_pair row = record { local = row.created_local; text = row.number }

-- the numbers of the texts that a person made with the texts, rising
abbrev pub created_by : ℕ → List TextRow → List LocalText
created_by person rows = rising_locals (map created_pair (filter (is_created_by person) rows))

-- whether this links a comment, or a footnote, to a text
abbrev pub is_link : ℕ → ℕ → Bool → TextLink → Bool
is_link child parent footnote row =
    row.child == child && row.parent == parent && alike row.footnote footnote

abbrev pub link_of : ℕ → ℕ → Bool → List TextLink → Option TextLink
link_of child parent footnote rows = find (is_link child parent footnote) rows

-- the links of a text to those that it comments, or is a footnote to; and of the comments, or the
-- footnotes, to it
abbrev pub links_from : ℕ → Bool → List TextLink → List TextLink
links_from text footnote rows =
    filter (λ row. row.child == text && alike row.footnote footnote) rows

abbrev pub links_into : ℕ → Bool → List TextLink → List TextLink
links_into text footnote rows =
    filter (λ row. row.parent == text && alike row.footnote footnote) rows

-- a link is taken away
abbrev pub without_link : ℕ → ℕ → Bool → List TextLink → List TextLink
without_link child parent footnote rows =
    filter (λ row. not (is_link child parent footnote row)) rows

-- whether this is a person's mark on a text
abbrev pub is_mark : ℕ → ℕ → MarkRow → Bool
is_mark person text row = row.person == person && row.text == text

abbrev pub mark_of : ℕ → ℕ → List MarkRow → Option MarkRow
mark_of person text rows = find (is_mark person text) rows

-- a mark among others by its text
abbrev pub by_text : MarkRow → List MarkRow → List MarkRow
by_text row [] = row ∷ []
by_text row (first ∷ rows) =
    if nat_lt row.text first.text then row ∷ first ∷ rows else first ∷ by_text row rows

-- the marks of a person, by rising text
abbrev pub marks_of : ℕ → List MarkRow → List MarkRow
marks_of person rows =
    fold (λ sorted row. by_text row sorted) [] (filter (λ row. row.person == person) rows)

-- a mark as its person is told of it
abbrev pub shown_mark : MarkRow → Mark
shown_mark row = record { text = row.text; kind = row.kind }

-- the marks on a text, in the order of setting
abbrev pub marks_on : ℕ → List MarkRow → List MarkRow
marks_on text rows = filter (λ row. row.text == text) rows

-- a mark is set: in place of the one of its person on its text, or else after the others
abbrev pub with_mark : MarkRow → List MarkRow → List MarkRow
with_mark given rows =
    if is_some (mark_of given.person given.text rows) then
    map (λ row. if is_mark given.person given.text row then given else row) rows
    else rows ++ given ∷ []

-- a mark is taken away
abbrev pub without_mark : ℕ → ℕ → List MarkRow → List MarkRow
without_mark person text rows = filter (λ row. not (is_mark person text row)) rows
