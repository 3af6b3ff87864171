-- What of the stored rows is shown to whom. That this is shown is this server's choice. (Protocol
-- A, "Security".)
use Rattle.std.specs.Prelude.{ℕ, ◌-◌, Bool, true, false, ◌==◌, ◌||◌, ◌&&◌, not, min}
use Rattle.std.specs.Prelude.{List, [], ◌∷◌, ◌++◌, length, map, filter, Some, None}
use Rattle.std.specs.Prelude.{if◌then◌else◌}
use Rattle.std.specs.List.{flat_map}
use Rattle.kom_types.specs.AuxItems.{is_shown}
use Rattle.kom_types.specs.Bits.{is_on}
use Rattle.kom_types.specs.declared.aux_items.Adder.{Adder}
use Rattle.kom_types.specs.declared.aux_items.AuxRow.{AuxRow}
use Rattle.kom_types.specs.declared.conferences.Conference.{Conference}
use Rattle.kom_types.specs.declared.conferences.ConferenceRow.{ConferenceRow}
use Rattle.kom_types.specs.declared.memberships.MembershipRow.{MembershipRow}
use Rattle.kom_types.specs.declared.memberships.ReadRange.{ReadRange}
use Rattle.kom_types.specs.declared.persons.Person.{Person}
use Rattle.kom_types.specs.declared.persons.PersonRow.{PersonRow}
use Rattle.kom_types.specs.declared.seats.Seat.{Seat}
use Rattle.kom_types.specs.declared.texts.TextLink.{TextLink}
use Rattle.kom_types.specs.declared.texts.MiscInfo.{MiscInfo}
use Rattle.kom_types.specs.declared.texts.MiscInfo.TheVariants as misc
use Rattle.kom_types.specs.declared.texts.Recipient.{Recipient}
use Rattle.kom_types.specs.declared.texts.TextRow.{TextRow}
use Rattle.kom_types.specs.declared.texts.TextStat.{TextStat}
use Rattle.kom_types.specs.tables.Memberships.{is_secret_membership}
use Rattle.kom_types.specs.tables.Persons.{last_count}
use Rattle.kom_model.specs.declared.text_heads.TextHead.{TextHead}
use Rattle.kom_model.specs.declared.viewers.Viewer.{Viewer}
use Rattle.kom_model.specs.Db.{Db, person_flags_of, recipients_of, links_from, links_into}
use Rattle.kom_model.specs.Db.{marks_of, marks_on, members_of, memberships_of, read_of}
use Rattle.kom_model.specs.Db.{text_author_of, items_of, first_local_of, next_local_of}
use Rattle.kom_model.specs.Db.{first_created_of, next_created_of}
use Rattle.kom_model.specs.Rights.{sees, reads_conference, supervises, is_author}

-- a recipient is shown to who sees the conference; one that is shown to few, only to who also is
-- the author, or added it, or reads the conference
abbrev pub shows_recipient : Db → Viewer → ℕ → Recipient → Bool
shows_recipient db viewer author row = sees db viewer row.conference
    && (not (row.tag == 15) || is_author viewer.person author || is_author viewer.person row.sender
    || reads_conference db viewer row.conference)

-- A membership of this type is shown to who sees the conference; a secret one only to who also is
-- the person, or supervises the person or the conference.
unfoldable pub shows_membership : Db → Viewer → ℕ → ℕ → ℕ → Bool
shows_membership db viewer person conference kind = sees db viewer conference
    && (not (is_secret_membership kind) || viewer.strong || viewer.person == person
    || supervises db viewer.person person || supervises db viewer.person conference)

-- a person keeps to itself what it has read
abbrev pub is_reserved : Db → ℕ → Bool
is_reserved db person =
    elim (person_flags_of db person) [ None ↦ false | Some flags ↦ is_on 128 flags ]

-- what a person has read is shown to all, or, if it keeps that to itself, to it and to who
-- supervises it
abbrev pub shows_reads : Db → Viewer → ℕ → Bool
shows_reads db viewer person = not (is_reserved db person) || viewer.strong
    || viewer.person == person || supervises db viewer.person person

-- the members of a conference, and the memberships of a person, that are shown to who looks
abbrev pub members_shown : Db → Viewer → ℕ → List MembershipRow
members_shown db viewer conference =
    filter (λ row. shows_membership db viewer row.person conference row.kind)
    (members_of db conference)

abbrev pub memberships_shown : Db → Viewer → ℕ → List MembershipRow
memberships_shown db viewer person =
    filter (λ row. shows_membership db viewer row.person row.conference row.kind)
    (memberships_of db person)

-- what who looks is told that a person has read, and when that was set: nothing, and 0, if the
-- person keeps it from who looks
abbrev pub ranges_shown : Db → Viewer → MembershipRow → List ReadRange
ranges_shown db viewer row =
    if shows_reads db viewer row.person then read_of db row.person row.conference else []

abbrev pub time_shown : Db → Viewer → MembershipRow → ℕ
time_shown db viewer row = if shows_reads db viewer row.person then row.last_time_read else 0

-- how many there are of something: what is counted stops at this server's last count
abbrev pub told_count : ℕ → ℕ
told_count count = min count last_count

-- what is told to a person of itself alone: others are told 0
abbrev pub own_count : Viewer → ℕ → ℕ → ℕ
own_count viewer person count =
    if viewer.strong || viewer.person == person then count else 0

-- who looks at the items of a text, and of a conference: who made a text owns it, and so do all who
-- supervise that person; of a conference those who supervise it; and a strong session owns all
abbrev pub text_adder : Db → Viewer → ℕ → Adder
text_adder db viewer text = record {
  person = viewer.person;
  owns = elim (text_author_of db text) [
    | None ↦ viewer.strong
    | Some author ↦ is_author viewer.person author || supervises db viewer.person author
        || viewer.strong
  ];
}

abbrev pub conference_adder : Db → Viewer → ℕ → Adder
conference_adder db viewer conference = record {
  person = viewer.person;
  owns = supervises db viewer.person conference || viewer.strong;
}

-- who added an item is told to that person and to who owns the object, if it is to be hidden
abbrev pub hides_creator : ℕ → Bool
hides_creator flags = is_on 16 flags

abbrev pub item_told : Adder → AuxRow → AuxRow
item_told adder item =
    if hides_creator item.flags && not (item.creator == adder.person || adder.owns)
    then record item { creator = 0 } else item

-- the items that are shown, as they are told
abbrev pub items_shown : Adder → List AuxRow → List AuxRow
items_shown adder items = map (item_told adder) (filter (is_shown adder) items)

-- A person, as it is told to who looks. (Protocol A, "Persons".)
abbrev pub person_told : Db → Viewer → PersonRow → Person
person_told db viewer row = record {
  user = row.user;
  privileges = row.privileges;
  flags = row.flags;
  last_login = row.last_login;
  user_area = row.user_area;
  time_present = row.time_present;
  sessions = row.sessions;
  created_lines = row.created_lines;
  created_bytes = row.created_bytes;
  read_texts = own_count viewer row.number row.read_texts;
  text_fetches = own_count viewer row.number row.text_fetches;
  created_persons = row.created_persons;
  created_conferences = row.created_conferences;
  first_created_local = first_created_of db row.number;
  created_texts = next_created_of db row.number - first_created_of db row.number;
  marks = own_count viewer row.number (told_count (length (marks_of db row.number)));
  conferences = told_count (length (memberships_shown db viewer row.number));
}

-- A conference, as it is told to who looks. (Protocol A, "Conferences".)
abbrev pub conference_told : Db → Viewer → ConferenceRow → Conference
conference_told db viewer row = record {
  name = row.name;
  kind = row.kind;
  created = row.created;
  last_written = row.last_written;
  creator = row.creator;
  presentation = row.presentation;
  supervisor = row.supervisor;
  submitters = row.submitters;
  super_conference = row.super_conference;
  motd = row.motd;
  nice = row.nice;
  keep_commented = row.keep_commented;
  members = told_count (length (members_shown db viewer row.number));
  first_local = first_local_of db row.number;
  texts = next_local_of db row.number - first_local_of db row.number;
  expire = row.expire;
  aux_items =
      items_shown (conference_adder db viewer row.number) (items_of db false row.number);
}

-- who added a recipient, or a link, later, and when: nothing, if the text was made with it
abbrev pub sent_infos : ℕ → ℕ → List MiscInfo
sent_infos sender at = if sender == 0 then [] else misc.SentBy sender ∷ misc.SentAt at ∷ []

-- what is told of a recipient
abbrev pub recipient_info : ℕ → ℕ → MiscInfo
recipient_info tag conference =
    if tag == 15 then misc.BlindRecipient conference
    else if tag == 1 then misc.CopyRecipient conference else misc.Recipient conference

abbrev pub recipient_infos : Recipient → List MiscInfo
recipient_infos row =
    recipient_info row.tag row.conference ∷ misc.Local row.local ∷ sent_infos row.sender row.at

-- what is told of a link from a text, and of one into it
abbrev pub from_infos : TextLink → List MiscInfo
from_infos row =
    (if row.footnote then misc.FootnoteTo row.parent else misc.CommentTo row.parent)
    ∷ sent_infos row.sender row.at

abbrev pub into_info : TextLink → MiscInfo
into_info row = if row.footnote then misc.FootnoteIn row.child else misc.CommentIn row.child

-- the recipients of a text of this author that are shown to who looks
abbrev pub recipients_shown : Db → Viewer → ℕ → ℕ → List Recipient
recipients_shown db viewer author text =
    filter (shows_recipient db viewer author) (recipients_of db text)

-- all that a text is linked to, each group in the order of adding. (Protocol A, "Misc-Info".)
abbrev pub misc_infos : Db → Viewer → TextHead → List MiscInfo
misc_infos db viewer head =
    flat_map recipient_infos (recipients_shown db viewer head.author head.number)
    ++ flat_map from_infos (links_from db head.number false)
    ++ map into_info (links_into db head.number false)
    ++ flat_map from_infos (links_from db head.number true)
    ++ map into_info (links_into db head.number true)

-- a text without its body
abbrev pub text_head_of : TextRow → TextHead
text_head_of row = record {
  number = row.number;
  author = row.author;
  created = row.created;
  lines = row.lines;
  chars = length row.body;
}

-- A text, as it is told to who reads it. (Protocol A, "Texts".)
abbrev pub stat_of : Db → Viewer → TextHead → TextStat
stat_of db viewer head = record {
  created = head.created;
  author = head.author;
  lines = told_count head.lines;
  chars = told_count head.chars;
  marks = told_count (length (marks_on db head.number));
  misc_infos = misc_infos db viewer head;
  aux_items = items_shown (text_adder db viewer head.number) (items_of db true head.number);
}

abbrev pub shown_stat : Db → Viewer → TextRow → TextStat
shown_stat db viewer row = stat_of db viewer (text_head_of row)

-- the conference that a session is in, as it is told to who looks: 0 if that is not seen
abbrev pub working_shown : Db → Viewer → Seat → ℕ
working_shown db viewer seat = if sees db viewer seat.working then seat.working else 0
