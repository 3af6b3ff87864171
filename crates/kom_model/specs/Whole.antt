-- What holds of the stored rows after effects that fit: what a row names is there, no row is there
-- twice, numbers lie below the next ones, and the limits hold. That a read local number lies below
-- the next one of its conference is not among it.
use Rattle.std.specs.Prelude.{◌≡◌, ℕ, ◌+◌, ◌<◌, ◌≤◌, Bool, true, false, ◌==◌, ◌&&◌, not, nat_lt}
use Rattle.std.specs.Prelude.{List, [], ◌∷◌, length, map, filter, Some, None, is_some, IsTrue}
use Rattle.std.specs.List.{AllByRecursion, list_any}
use Rattle.kom_types.specs.declared.limits.TheConstants.{LAST_CONFERENCE, LAST_DRAWN, LONGEST_BODY}
use Rattle.kom_types.specs.declared.limits.TheConstants.{LONGEST_CONTENT, LONGEST_NAME}
use Rattle.kom_types.specs.declared.limits.TheConstants.{MOST_AUX_ITEMS, MOST_MARKS}
use Rattle.kom_types.specs.declared.limits.TheConstants.{MOST_MEMBERSHIPS, MOST_RECIPIENTS}
use Rattle.row_table.specs.Tables.{row_of, IsByNumber}
use Rattle.kom_types.specs.AuxItems.{kind_of}
use Rattle.kom_types.specs.declared.aux_items.ItemRow.{ItemRow}
use Rattle.kom_types.specs.declared.conferences.ConferenceRow.{ConferenceRow}
use Rattle.kom_types.specs.declared.memberships.MembershipRow.{MembershipRow}
use Rattle.kom_types.specs.declared.memberships.ReadRange.{ReadRange}
use Rattle.kom_types.specs.declared.persons.PersonRow.{PersonRow}
use Rattle.kom_types.specs.declared.texts.MarkRow.{MarkRow}
use Rattle.kom_types.specs.declared.texts.Recipient.{Recipient}
use Rattle.kom_types.specs.declared.texts.TextLink.{TextLink}
use Rattle.kom_types.specs.declared.texts.TextRow.{TextRow}
use Rattle.kom_types.specs.Names.{clash}
use Rattle.kom_types.specs.tables.AuxItems.{is_item, is_item_of}
use Rattle.kom_types.specs.tables.Conferences.{number_of_conference, is_letterbox}
use Rattle.kom_types.specs.tables.Memberships.{is_membership, count_of}
use Rattle.kom_types.specs.tables.Persons.{number_of_person}
use Rattle.kom_types.specs.tables.Texts.{number_of_text, is_recipient, recipients_of, is_link}
use Rattle.kom_types.specs.tables.Texts.{links_from, links_into, is_mark}
use Rattle.read_ranges.specs.Reads.{ReadRow}
use Rattle.kom_types.specs.declared.effects.Effect.{Effect}
use Rattle.kom_model.specs.Db.{Db, empty_db}
use Rattle.kom_model.specs.Effects.{fits, after_effect, apply_all}
use Rattle.kom_model.specs.Effects.{most_links}
use Rattle.kom_model.specs.Effects.{is_recipient_tag}

-- a conference, a person, or a text, is there
abbrev pub has_conference : List ConferenceRow → ℕ → Bool
has_conference rows number = is_some (row_of number_of_conference number rows)

abbrev pub has_person : List PersonRow → ℕ → Bool
has_person rows number = is_some (row_of number_of_person number rows)

abbrev pub has_text : List TextRow → ℕ → Bool
has_text rows number = is_some (row_of number_of_text number rows)

-- a letterbox is there
abbrev pub has_letterbox : List ConferenceRow → ℕ → Bool
has_letterbox rows number = elim (row_of number_of_conference number rows) [
  | None ↦ false
  | Some row ↦ is_letterbox row.kind
]

-- a conference is there, and has drawn a local number; so has a person, among its texts
abbrev pub has_drawn_local : List ConferenceRow → ℕ → ℕ → Bool
has_drawn_local rows number local = elim (row_of number_of_conference number rows) [
  | None ↦ false
  | Some row ↦ nat_lt local row.next_local
]

abbrev pub has_drawn_created : List PersonRow → ℕ → ℕ → Bool
has_drawn_created rows number local = elim (row_of number_of_person number rows) [
  | None ↦ false
  | Some row ↦ nat_lt local row.next_created
]

-- a conference, or a text, is there, and has drawn the number of an aux-item
abbrev pub has_conference_item : List ConferenceRow → ℕ → ℕ → Bool
has_conference_item rows number item = elim (row_of number_of_conference number rows) [
  | None ↦ false
  | Some row ↦ nat_lt item row.next_item
]

abbrev pub has_text_item : List TextRow → ℕ → ℕ → Bool
has_text_item rows number item = elim (row_of number_of_text number rows) [
  | None ↦ false
  | Some row ↦ nat_lt item row.next_item
]

-- no conference but the one of this number has a name that clashes
abbrev pub is_apart : List ConferenceRow → ConferenceRow → Bool
is_apart rows one = not (list_any
    (λ row. not (row.number == one.number) && clash row.name one.name) rows)

-- The conferences: their numbers rise, from 1 on, and lie below the next one; their names are
-- short, and no two clash.
pub record AreConferences (rows : List ConferenceRow) (next : ℕ) : Type 0 where
  pub rising : IsByNumber number_of_conference rows
  pub positive : AllByRecursion (λ row. 0 < row.number) rows
  pub drawn : AllByRecursion (λ row. row.number < next) rows
  pub begun : 0 < next
  pub limited : next ≤ LAST_CONFERENCE + 1
  pub short : AllByRecursion (λ row. length row.name ≤ LONGEST_NAME) rows
  pub apart : AllByRecursion (λ row. IsTrue (is_apart rows row)) rows

-- The persons: their numbers rise; each has its letterbox.
pub record ArePersons (rows : List PersonRow) (conferences : List ConferenceRow) : Type 0 where
  pub rising : IsByNumber number_of_person rows
  pub housed : AllByRecursion (λ row. IsTrue (has_letterbox conferences row.number)) rows

-- a text has no number among those of its author, or one that the author has drawn
abbrev pub IsNumbered : List PersonRow → TextRow → Type 0
IsNumbered persons row =
    0 < row.created_local → IsTrue (has_drawn_created persons row.author row.created_local)

-- whether a text has this number among those of its author
abbrev pub is_created : ℕ → ℕ → TextRow → Bool
is_created person local row = row.author == person && row.created_local == local

-- The texts: their numbers rise, and lie below the next one; no body is too long; and no two texts
-- of an author have the same number among its texts.
pub record AreTexts (rows : List TextRow) (next : ℕ) (persons : List PersonRow) : Type 0 where
  pub rising : IsByNumber number_of_text rows
  pub drawn : AllByRecursion (λ row. row.number < next) rows
  pub limited : next ≤ LAST_DRAWN + 1
  pub short : AllByRecursion (λ row. length row.body ≤ LONGEST_BODY) rows
  pub numbered : AllByRecursion (IsNumbered persons) rows
  pub created_once : (person local : ℕ) → 0 < local
      → length (filter (is_created person local) rows) ≤ 1

-- ranges that rise from here on, and do not touch
abbrev pub RiseApart : ℕ → List ReadRange → Type 0
RiseApart least [] = Unit {0}
RiseApart least (one ∷ ranges) =
    (least ≤ one.first) × (one.first ≤ one.last) × RiseApart (one.last + 2) ranges

-- of whom a membership is, and in what; the same of what was read
abbrev pub key_of : MembershipRow → ℕ × ℕ
key_of row = (row.person, row.conference)

abbrev pub read_key_of : ReadRow → ℕ × ℕ
read_key_of row = (row.person, row.conference)

-- The memberships: the person and the conference of each are there; no person is twice in a
-- conference, or in too many; and what was read is kept for each, as ranges that rise.
pub record AreMemberships (rows : List MembershipRow) (reads : List ReadRow)
    (persons : List PersonRow) (conferences : List ConferenceRow) : Type 0 where
  pub person_there : AllByRecursion (λ row. IsTrue (has_person persons row.person)) rows
  pub conference_there : AllByRecursion
      (λ row. IsTrue (has_conference conferences row.conference)) rows
  pub once : (person conference : ℕ) → length (filter (is_membership person conference) rows) ≤ 1
  pub limited : (person : ℕ) → count_of person rows ≤ MOST_MEMBERSHIPS
  pub kept : map read_key_of reads ≡ map key_of rows
  pub ranges : AllByRecursion (λ row. RiseApart 1 row.ranges) reads

-- The recipients: the text and the conference of each are there; no conference is twice a recipient
-- of a text, or has two texts of one local number; each local number lies below the next one.
pub record AreRecipients (rows : List Recipient) (texts : List TextRow)
    (conferences : List ConferenceRow) : Type 0 where
  pub text_there : AllByRecursion (λ row. IsTrue (has_text texts row.text)) rows
  pub drawn : AllByRecursion (λ row. IsTrue (has_drawn_local conferences row.conference row.local))
      rows
  pub tagged : AllByRecursion (λ row. IsTrue (is_recipient_tag row.tag)) rows
  pub once : (text conference : ℕ) → length (filter (is_recipient text conference) rows) ≤ 1
  pub local_once : (conference local : ℕ)
      → length (filter (λ row. row.conference == conference && row.local == local) rows) ≤ 1
  pub limited : (text : ℕ) → length (recipients_of text rows) ≤ MOST_RECIPIENTS

-- The links: both texts of each are there; no two texts are linked twice in one way; and no text
-- has too many of a kind, from it or into it.
pub record AreLinks (rows : List TextLink) (texts : List TextRow) : Type 0 where
  pub child_there : AllByRecursion (λ row. IsTrue (has_text texts row.child)) rows
  pub parent_there : AllByRecursion (λ row. IsTrue (has_text texts row.parent)) rows
  pub once : (child parent : ℕ) (footnote : Bool)
      → length (filter (is_link child parent footnote) rows) ≤ 1
  pub limited_from : (text : ℕ) (footnote : Bool)
      → length (links_from text footnote rows) ≤ most_links footnote
  pub limited_into : (text : ℕ) (footnote : Bool)
      → length (links_into text footnote rows) ≤ most_links footnote

-- The marks: the person and the text of each are there; no person has two on one text, or too many.
pub record AreMarks (rows : List MarkRow) (persons : List PersonRow) (texts : List TextRow)
    : Type 0 where
  pub person_there : AllByRecursion (λ row. IsTrue (has_person persons row.person)) rows
  pub text_there : AllByRecursion (λ row. IsTrue (has_text texts row.text)) rows
  pub once : (person text : ℕ) → length (filter (is_mark person text) rows) ≤ 1
  pub limited : (person : ℕ) → length (filter (λ row. row.person == person) rows) ≤ MOST_MARKS

-- the object of an aux-item is there, and has drawn the item's number
abbrev pub has_drawn_item : List TextRow → List ConferenceRow → Bool → ℕ → ℕ → Bool
has_drawn_item texts conferences true object number = has_text_item texts object number
has_drawn_item texts conferences false object number =
    has_conference_item conferences object number

-- The aux-items: the object of each is there, and has drawn its number, which no other item of the
-- object has; its tag is known, and its contents are short; and no object has too many.
pub record AreItems (rows : List ItemRow) (texts : List TextRow) (conferences : List ConferenceRow)
    : Type 0 where
  pub drawn : AllByRecursion
      (λ row. IsTrue (has_drawn_item texts conferences row.on_text row.object row.item.number)) rows
  pub known : AllByRecursion (λ row. IsTrue (is_some (kind_of row.item.tag))) rows
  pub short : AllByRecursion (λ row. length row.item.content ≤ LONGEST_CONTENT) rows
  pub once : (on_text : Bool) (object number : ℕ)
      → length (filter (is_item on_text object number) rows) ≤ 1
  pub limited : (on_text : Bool) (object : ℕ)
      → length (filter (is_item_of on_text object) rows) ≤ MOST_AUX_ITEMS

-- The stored rows are whole.
pub record IsWhole (db : Db) : Type 0 where
  pub conferences : AreConferences db.conferences db.next_conference
  pub persons : ArePersons db.persons db.conferences
  pub texts : AreTexts db.texts db.next_text db.persons
  pub memberships : AreMemberships db.memberships db.reads db.persons db.conferences
  pub recipients : AreRecipients db.recipients db.texts db.conferences
  pub links : AreLinks db.links db.texts
  pub marks : AreMarks db.marks db.persons db.texts
  pub items : AreItems db.items db.texts db.conferences

-- The laws of whole rows: no row is whole, an effect that fits leaves whole rows whole, and so do
-- effects one after the other, since one that does not fit changes nothing.
pub record StandWhole : Type 0 where
  pub empty : IsWhole empty_db
  pub one : (what : Effect) (db : Db) → fits what db ≡ true → IsWhole db →
      IsWhole (after_effect what db)
  pub all : (effects : List Effect) (db : Db) → IsWhole db → IsWhole (apply_all effects db)
