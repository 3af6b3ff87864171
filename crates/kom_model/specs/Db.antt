-- The stored rows, and how definitions read them.
use Rattle.std.specs.Prelude.{ℕ, Bool, true, false, ◌==◌, ◌||◌, List, [], ◌∷◌, filter, Option}
use Rattle.std.specs.Prelude.{Some, None, option_map}
use Rattle.row_table.specs.Tables.{row_of}
use Rattle.kom_types.specs.declared.aux_items.AuxRow.{AuxRow}
use Rattle.kom_types.specs.declared.aux_items.ItemRow.{ItemRow}
use Rattle.kom_types.specs.declared.conferences.ConferenceHead.{ConferenceHead}
use Rattle.kom_types.specs.declared.conferences.ConferenceRow.{ConferenceRow}
use Rattle.kom_types.specs.declared.memberships.MembershipRow.{MembershipRow}
use Rattle.kom_types.specs.declared.memberships.ReadRange.{ReadRange}
use Rattle.kom_types.specs.declared.persons.PersonRow.{PersonRow}
use Rattle.kom_types.specs.declared.texts.TextLink.{TextLink}
use Rattle.kom_types.specs.declared.texts.LocalText.{LocalText}
use Rattle.kom_types.specs.declared.texts.MarkRow.{MarkRow}
use Rattle.kom_types.specs.declared.texts.Recipient.{Recipient}
use Rattle.kom_types.specs.declared.texts.TextRow.{TextRow}
use Rattle.kom_types.specs.tables.AuxItems as AuxItems
use Rattle.kom_types.specs.tables.Conferences.{head_of, number_of_conference}
use Rattle.kom_types.specs.tables.Memberships as Memberships
use Rattle.kom_types.specs.tables.Persons.{number_of_person}
use Rattle.kom_types.specs.tables.Texts as Texts
use Rattle.kom_types.specs.tables.Texts.{number_of_text}
use Rattle.read_ranges.specs.Reads as Reads
use Rattle.read_ranges.specs.Reads.{ReadRow}

-- Conferences, persons and texts by rising number; memberships, and what was read in each, in the
-- order of joining; recipients, links, marks and aux-items in the order of adding; and the numbers
-- that the next conference and the next text get. A person's number is that of its letterbox.
pub record Db : Type 0 where
  pub conferences : List ConferenceRow
  pub persons : List PersonRow
  pub memberships : List MembershipRow
  pub reads : List ReadRow
  pub texts : List TextRow
  pub recipients : List Recipient
  pub links : List TextLink
  pub marks : List MarkRow
  pub items : List ItemRow
  pub next_conference : ℕ
  pub next_text : ℕ

abbrev pub empty_db : Db
empty_db = record {
  conferences = [];
  persons = [];
  memberships = [];
  reads = [];
  texts = [];
  recipients = [];
  links = [];
  marks = [];
  items = [];
  next_conference = 1;
  next_text = 1;
}

-- the conference of a number
unfoldable pub conference_of : Db → ℕ → Option ConferenceRow
conference_of db number = row_of number_of_conference number db.conferences

-- the person of a number
unfoldable pub person_of : Db → ℕ → Option PersonRow
person_of db number = row_of number_of_person number db.persons

-- the membership of a person in a conference
unfoldable pub membership_of : Db → ℕ → ℕ → Option MembershipRow
membership_of db person conference = Memberships.membership_of person conference db.memberships

-- the memberships in a conference, and those of the person whose letterbox it is, in the order of
-- joining
unfoldable pub memberships_at : Db → ℕ → List MembershipRow
memberships_at db number =
    filter (λ row. row.person == number || row.conference == number) db.memberships

-- what of a conference the rights of persons hang on
unfoldable pub conference_head_of : Db → ℕ → Option ConferenceHead
conference_head_of db number = option_map head_of (conference_of db number)

-- the type of the membership of a person in a conference
unfoldable pub membership_kind_of : Db → ℕ → ℕ → Option ℕ
membership_kind_of db person conference =
    option_map (λ row. row.kind) (membership_of db person conference)

-- the flags of a person
unfoldable pub person_flags_of : Db → ℕ → Option ℕ
person_flags_of db number = option_map (λ row. row.flags) (person_of db number)

-- the memberships of a person, by their places
unfoldable pub memberships_of : Db → ℕ → List MembershipRow
memberships_of db person = Memberships.memberships_of person db.memberships

-- the memberships in a conference, in the order of joining
unfoldable pub members_of : Db → ℕ → List MembershipRow
members_of db conference = Memberships.members_of conference db.memberships

-- the ranges of local numbers that a person has read of a conference: none if it is no member
unfoldable pub read_of : Db → ℕ → ℕ → List ReadRange
read_of db person conference = Reads.read_of person conference db.reads

-- all conferences, by rising number
unfoldable pub conferences_of : Db → List ConferenceRow
conferences_of db = db.conferences

-- the number that the next conference gets
unfoldable pub next_conference_of : Db → ℕ
next_conference_of db = db.next_conference

-- the number that the next text of a conference gets in it; 1 if there is no such conference
unfoldable pub next_local_of : Db → ℕ → ℕ
next_local_of db number =
    elim (conference_of db number) [ None ↦ 1 | Some row ↦ row.next_local ]

-- the text of a number
unfoldable pub text_of : Db → ℕ → Option TextRow
text_of db number = row_of number_of_text number db.texts

-- who made a text: 0 if it is anonymous
unfoldable pub text_author_of : Db → ℕ → Option ℕ
text_author_of db number = option_map (λ row. row.author) (text_of db number)

-- all texts, by rising number
unfoldable pub texts_of : Db → List TextRow
texts_of db = db.texts

-- the number that the next text gets
unfoldable pub next_text_of : Db → ℕ
next_text_of db = db.next_text

-- what makes a conference a recipient of a text, and all recipients of a text, in the order of
-- adding
unfoldable pub recipient_of : Db → ℕ → ℕ → Option Recipient
recipient_of db text conference = Texts.recipient_of text conference db.recipients

unfoldable pub recipients_of : Db → ℕ → List Recipient
recipients_of db text = Texts.recipients_of text db.recipients

-- the link of a comment, or a footnote, to a text; the links from a text to those that it comments,
-- or is a footnote to; and those of the comments, or the footnotes, to it
unfoldable pub link_of : Db → ℕ → ℕ → Bool → Option TextLink
link_of db child parent footnote = Texts.link_of child parent footnote db.links

unfoldable pub links_from : Db → ℕ → Bool → List TextLink
links_from db text footnote = Texts.links_from text footnote db.links

unfoldable pub links_into : Db → ℕ → Bool → List TextLink
links_into db text footnote = Texts.links_into text footnote db.links

-- the links from a text and into it, in the order of adding
unfoldable pub links_of : Db → ℕ → List TextLink
links_of db text = filter (λ row. row.child == text || row.parent == text) db.links

-- the local numbers of a conference with their texts, rising
unfoldable pub locals_of : Db → ℕ → List LocalText
locals_of db conference = Texts.locals_of conference db.recipients

-- the least local number of a conference that has a text: the next one if none has
unfoldable pub first_local_of : Db → ℕ → ℕ
first_local_of db conference =
    elim (locals_of db conference) [ [] ↦ next_local_of db conference | pair ∷ pairs ↦ pair.local ]

-- the numbers of the texts that a person made with the texts, rising
unfoldable pub created_by : Db → ℕ → List LocalText
created_by db person = Texts.created_by person db.texts

-- the number that the next text of a person gets among those that it made; 1 if there is no such
-- person
unfoldable pub next_created_of : Db → ℕ → ℕ
next_created_of db number = elim (person_of db number) [ None ↦ 1 | Some row ↦ row.next_created ]

-- the least number among the texts that a person made that still has a text: the next one if none
-- has
unfoldable pub first_created_of : Db → ℕ → ℕ
first_created_of db person =
    elim (created_by db person) [ [] ↦ next_created_of db person | pair ∷ pairs ↦ pair.local ]

-- a person's mark on a text; the marks of a person, by rising text; and the marks on a text, in the
-- order of setting
unfoldable pub mark_of : Db → ℕ → ℕ → Option MarkRow
mark_of db person text = Texts.mark_of person text db.marks

unfoldable pub marks_of : Db → ℕ → List MarkRow
marks_of db person = Texts.marks_of person db.marks

unfoldable pub marks_on : Db → ℕ → List MarkRow
marks_on db text = Texts.marks_on text db.marks

-- the aux-items of a text, or a conference, in the order of adding; and the number that the next
-- one gets: 1 if there is no such object
unfoldable pub items_of : Db → Bool → ℕ → List AuxRow
items_of db on_text object = AuxItems.items_of on_text object db.items

unfoldable pub next_item_of : Db → Bool → ℕ → ℕ
next_item_of db true object = elim (text_of db object) [ None ↦ 1 | Some row ↦ row.next_item ]
next_item_of db false object =
    elim (conference_of db object) [ None ↦ 1 | Some row ↦ row.next_item ]
