-- What can change the stored rows: a closed list of effects, each a row that is added, set or
-- removed. That the state changes so is this server's own choice.
use Rattle.std.specs.Prelude.{ℕ, ◌+◌, Bool, true, false, ◌==◌, ◌||◌, ◌&&◌, not, nat_le, nat_lt}
use Rattle.std.specs.Prelude.{List, [], ◌∷◌, ◌++◌, length, map, Some, None, is_some, is_none}
use Rattle.std.specs.Prelude.{if◌then◌else◌, IsTrue}
use Rattle.std.specs.List.{AllByRecursion, list_any}
use Rattle.kom_types.specs.declared.limits.TheConstants.{LAST_CONFERENCE, LAST_DRAWN, LONGEST_BODY}
use Rattle.kom_types.specs.declared.limits.TheConstants.{LONGEST_CONTENT, LONGEST_NAME}
use Rattle.kom_types.specs.declared.limits.TheConstants.{LONGEST_USER_NAME, MOST_AUX_ITEMS}
use Rattle.kom_types.specs.declared.limits.TheConstants.{MOST_COMMENTS, MOST_FOOTNOTES, MOST_MARKS}
use Rattle.kom_types.specs.declared.limits.TheConstants.{MOST_MEMBERSHIPS, MOST_RECIPIENTS}
use Rattle.row_table.specs.Tables.{with_row, without_row, changed_row}
use Rattle.kom_types.specs.AuxItems.{kind_of}
use Rattle.kom_types.specs.declared.aux_items.AuxRow.{AuxRow}
use Rattle.kom_types.specs.declared.conferences.ConferenceRow.{ConferenceRow}
use Rattle.kom_types.specs.declared.effects.ConfField.{ConfField}
use Rattle.kom_types.specs.declared.effects.ConfField.TheVariants as field
use Rattle.kom_types.specs.declared.effects.Effect.{Effect}
use Rattle.kom_types.specs.declared.effects.Effect.TheVariants as effect
use Rattle.kom_types.specs.declared.memberships.MembershipRow.{MembershipRow}
use Rattle.kom_types.specs.declared.persons.PersonRow.{PersonRow}
use Rattle.kom_types.specs.declared.texts.TextLink.{TextLink}
use Rattle.kom_types.specs.declared.texts.Recipient.{Recipient}
use Rattle.kom_types.specs.declared.texts.TextRow.{TextRow}
use Rattle.kom_types.specs.Bits.{alike}
use Rattle.kom_types.specs.Names.{clash}
use Rattle.kom_types.specs.tables.AuxItems.{without_item}
use Rattle.kom_types.specs.tables.Conferences as Conferences
use Rattle.kom_types.specs.tables.Conferences.{number_of_conference, is_secret_protected}
use Rattle.kom_types.specs.tables.Conferences.{is_letterbox, fresh_conference, with_name}
use Rattle.kom_types.specs.tables.Conferences.{with_local_drawn}
use Rattle.kom_types.specs.tables.Memberships.{with_membership, without_membership}
use Rattle.kom_types.specs.tables.Persons as Persons
use Rattle.kom_types.specs.tables.Persons.{number_of_person, fresh_person, count_up, logged_in}
use Rattle.kom_types.specs.tables.Persons.{with_hash, with_created_drawn}
use Rattle.kom_types.specs.tables.Texts as Texts
use Rattle.kom_types.specs.tables.Texts.{number_of_text, fresh_text, without_recipient}
use Rattle.kom_types.specs.tables.Texts.{without_link, with_mark, without_mark, with_created_local}
use Rattle.read_ranges.specs.Changed.{rise_after}
use Rattle.read_ranges.specs.Merged.{merge_all}
use Rattle.read_ranges.specs.Reads.{with_reader, without_reader, with_read, read_at}
use Rattle.kom_model.specs.Db.{Db, conference_of, person_of, membership_of, memberships_of}
use Rattle.kom_model.specs.Db.{members_of, locals_of, conferences_of, text_of, recipient_of}
use Rattle.kom_model.specs.Db.{recipients_of, link_of}
use Rattle.kom_model.specs.Db.{links_from, links_into, mark_of, marks_of, marks_on}
use Rattle.kom_model.specs.Db.{next_local_of, next_created_of, items_of, next_item_of}

abbrev pub most_links : Bool → ℕ
most_links false = MOST_COMMENTS
most_links true = MOST_FOOTNOTES

-- no conference but the one of this number has a name that clashes
abbrev pub is_free : Db → ℕ → List ℕ → Bool
is_free db number name = not (list_any
    (λ row. not (row.number == number) && clash row.name name) (conferences_of db))

-- a name that a conference may have
abbrev pub may_name : Db → ℕ → List ℕ → Bool
may_name db number name = nat_le (length name) LONGEST_NAME && is_free db number name

-- a conference of the number is made: the number was never used
abbrev pub may_add_conference : Db → ℕ → List ℕ → ℕ → Bool
may_add_conference db number name kind =
    nat_le db.next_conference number && nat_le number LAST_CONFERENCE
    && is_none (conference_of db number) && may_name db number name && is_secret_protected kind

-- a field may be set so: a type stays guarded, and a letterbox stays one
abbrev pub may_set : ConfField → ConferenceRow → Bool
may_set (field.Presentation text) row = true
may_set (field.Motd text) row = true
may_set (field.Supervisor conference) row = true
may_set (field.PermittedSubmitters conference) row = true
may_set (field.SuperConference conference) row = true
may_set (field.Kind kind) row =
    is_secret_protected kind && alike (is_letterbox kind) (is_letterbox row.kind)
may_set (field.Nice days) row = true
may_set (field.KeepCommented days) row = true
may_set (field.Expire days) row = true
may_set (field.LastWritten at) row = true

-- a conference may have its field set so
abbrev pub may_set_field : Db → ℕ → ConfField → Bool
may_set_field db number what = elim (conference_of db number) [
  | None ↦ false
  | Some row ↦ may_set what row
]

-- a person belongs to a letterbox of its number
abbrev pub has_letterbox : Db → ℕ → Bool
has_letterbox db number = elim (conference_of db number) [
  | None ↦ false
  | Some row ↦ is_letterbox row.kind
]

-- a membership is there already, or the person may have one more
abbrev pub has_room_to_join : Db → ℕ → ℕ → Bool
has_room_to_join db person conference =
    is_some (membership_of db person conference)
    || nat_lt (length (memberships_of db person)) MOST_MEMBERSHIPS

-- a text of the number is made: the number was never used
abbrev pub may_add_text : Db → ℕ → List ℕ → Bool
may_add_text db number body =
    nat_le db.next_text number && nat_le number LAST_DRAWN && is_none (text_of db number)
    && nat_le (length body) LONGEST_BODY

-- nothing is left that hangs on a text
abbrev pub is_bare : Db → ℕ → Bool
is_bare db text =
    length (recipients_of db text) == 0 && length (links_from db text false) == 0
    && length (links_from db text true) == 0 && length (links_into db text false) == 0
    && length (links_into db text true) == 0 && length (marks_on db text) == 0
    && length (items_of db true text) == 0

-- the number is the next one of the conference, or a later one
abbrev pub may_draw : Db → ℕ → ℕ → Bool
may_draw db conference local =
    nat_le (next_local_of db conference) local && nat_le local LAST_DRAWN

-- nothing is left that hangs on a conference; and on a person
abbrev pub is_bare_conference : Db → ℕ → Bool
is_bare_conference db number =
    length (locals_of db number) == 0 && length (members_of db number) == 0
    && length (items_of db false number) == 0 && is_none (person_of db number)

abbrev pub is_bare_person : Db → ℕ → Bool
is_bare_person db number =
    length (memberships_of db number) == 0 && length (marks_of db number) == 0

-- the tags of a recipient, of one of a copy, and of one that is shown to few
abbrev pub is_recipient_tag : ℕ → Bool
is_recipient_tag tag = tag == 0 || tag == 1 || tag == 15

-- a text may have one recipient more
abbrev pub may_add_recipient : Db → Recipient → Bool
may_add_recipient db given =
    is_some (text_of db given.text) && is_some (conference_of db given.conference)
    && is_none (recipient_of db given.text given.conference) && is_recipient_tag given.tag
    && may_draw db given.conference given.local
    && nat_lt (length (recipients_of db given.text)) MOST_RECIPIENTS

-- two texts may be linked
abbrev pub may_link : Db → TextLink → Bool
may_link db given =
    is_some (text_of db given.child) && is_some (text_of db given.parent)
    && is_none (link_of db given.child given.parent given.footnote)
    && nat_lt (length (links_from db given.child given.footnote)) (most_links given.footnote)
    && nat_lt (length (links_into db given.parent given.footnote)) (most_links given.footnote)

-- a person has a mark on the text already, or may have one more
abbrev pub may_mark : Db → ℕ → ℕ → Bool
may_mark db person text =
    is_some (mark_of db person text) || nat_lt (length (marks_of db person)) MOST_MARKS

-- a text that has no number among those of its author may get this one
abbrev pub may_number : Db → ℕ → ℕ → TextRow → Bool
may_number db person local row =
    row.author == person && row.created_local == 0
    && nat_le (next_created_of db person) local && nat_le local LAST_DRAWN

abbrev pub may_create : Db → ℕ → ℕ → ℕ → Bool
may_create db person local text = elim (text_of db text) [
  | None ↦ false
  | Some row ↦ is_some (person_of db person) && may_number db person local row
]

-- the text, or the conference, is there
abbrev pub has_object : Db → Bool → ℕ → Bool
has_object db true object = is_some (text_of db object)
has_object db false object = is_some (conference_of db object)

-- an object may have this item more: its number was never used, and the server knows its tag
abbrev pub may_add_item : Db → Bool → ℕ → AuxRow → Bool
may_add_item db on_text object item =
    has_object db on_text object && nat_le (next_item_of db on_text object) item.number
    && nat_le item.number LAST_DRAWN && is_some (kind_of item.tag)
    && nat_lt (length (items_of db on_text object)) MOST_AUX_ITEMS
    && nat_le (length item.content) LONGEST_CONTENT

abbrev pub has_item : Db → Bool → ℕ → ℕ → Bool
has_item db on_text object number =
    list_any (λ item. item.number == number) (items_of db on_text object)

-- Whether an effect fits: what it changes is there, what it adds is not, numbers were never used,
-- and the limits hold.
unfoldable pub fits : Effect → Db → Bool
fits (effect.ConfAdded number name kind at creator supervisor) db =
    may_add_conference db number name kind
fits (effect.ConfGone number) db =
    is_some (conference_of db number) && is_bare_conference db number
fits (effect.ConfNamed number name) db =
    is_some (conference_of db number) && may_name db number name
fits (effect.ConfField number what) db = may_set_field db number what
fits (effect.PersonAdded number privileges flags last_login) db =
    has_letterbox db number && is_none (person_of db number)
fits (effect.PersonGone number) db =
    is_some (person_of db number) && is_bare_person db number
fits (effect.PersonField number what) db = is_some (person_of db number)
fits (effect.Password number hash) db = is_some (person_of db number)
fits (effect.LoggedIn number at user) db =
    is_some (person_of db number) && nat_le (length user) LONGEST_USER_NAME
fits (effect.Counted number counter by) db = is_some (person_of db number)
fits (effect.TextAdded number author at body) db = may_add_text db number body
fits (effect.TextGone number) db = is_some (text_of db number) && is_bare db number
fits (effect.RecipientAdded recipient) db = may_add_recipient db recipient
fits (effect.RecipientGone text conference) db = is_some (recipient_of db text conference)
fits (effect.LinkAdded link) db = may_link db link
fits (effect.LinkGone child parent footnote) db = is_some (link_of db child parent footnote)
fits (effect.MemberSet person conference position priority added_by added_at kind) db =
    is_some (person_of db person) && is_some (conference_of db conference)
    && has_room_to_join db person conference
fits (effect.MemberGone person conference) db = is_some (membership_of db person conference)
fits (effect.ReadSet person conference at ranges) db =
    is_some (membership_of db person conference) && rise_after 0 ranges
fits (effect.MarkSet person text kind) db =
    is_some (person_of db person) && is_some (text_of db text) && may_mark db person text
fits (effect.MarkGone person text) db = is_some (mark_of db person text)
fits (effect.AuxAdded on_text object item) db = may_add_item db on_text object item
fits (effect.AuxGone on_text object number) db = has_item db on_text object number
fits (effect.Created person local text) db = may_create db person local text

-- with a conference that is made, and its number used
abbrev pub with_conference : ConferenceRow → Db → Db
with_conference row db = record db {
  conferences = with_row number_of_conference row db.conferences;
  next_conference = row.number + 1;
}

-- with one conference, or one person, changed
abbrev pub with_changed_conference : ℕ → (ConferenceRow → ConferenceRow) → Db → Db
with_changed_conference number change db =
    record db { conferences = changed_row number_of_conference number change db.conferences }

abbrev pub with_changed_person : ℕ → (PersonRow → PersonRow) → Db → Db
with_changed_person number change db =
    record db { persons = changed_row number_of_person number change db.persons }

-- with a recipient, whose conference has drawn its local number then
abbrev pub with_recipient : Recipient → Db → Db
with_recipient given db =
    with_changed_conference given.conference (with_local_drawn given.local)
    (record db { recipients = db.recipients ++ given ∷ [] })

-- with one text changed
abbrev pub with_changed_text : ℕ → (TextRow → TextRow) → Db → Db
with_changed_text number change db =
    record db { texts = changed_row number_of_text number change db.texts }

-- a text that this person made has no number among those that its author made any more
abbrev pub without_number : ℕ → TextRow → TextRow
without_number person row = if row.author == person then with_created_local 0 row else row

-- the membership that an effect sets; a new one counts as read when it was added
abbrev pub member_row : ℕ → ℕ → ℕ → ℕ → ℕ → ℕ → ℕ → MembershipRow
member_row person conference position priority added_by added_at kind = record {
  person = person;
  conference = conference;
  position = position;
  priority = priority;
  added_by = added_by;
  added_at = added_at;
  last_time_read = added_at;
  kind = kind;
}

-- with the number of an item of an object drawn; and with the item
abbrev pub with_item_drawn : Bool → ℕ → ℕ → Db → Db
with_item_drawn true object number db =
    with_changed_text object (Texts.with_item_drawn number) db
with_item_drawn false object number db =
    with_changed_conference object (Conferences.with_item_drawn number) db

abbrev pub with_item : Bool → ℕ → AuxRow → Db → Db
with_item on_text object item db = with_item_drawn on_text object item.number (record db {
  items = db.items ++ record { on_text = on_text; object = object; item = item } ∷ [];
})

-- What an effect that fits makes of the rows.
unfoldable pub after_effect : Effect → Db → Db
after_effect (effect.ConfAdded number name kind at creator supervisor) db =
    with_conference (fresh_conference number name kind at creator supervisor) db
after_effect (effect.ConfGone number) db =
    record db { conferences = without_row number_of_conference number db.conferences }
after_effect (effect.ConfNamed number name) db = with_changed_conference number (with_name name) db
after_effect (effect.ConfField number what) db =
    with_changed_conference number (Conferences.with_field what) db
after_effect (effect.PersonAdded number privileges flags last_login) db = record db {
  persons = with_row number_of_person (fresh_person number privileges flags last_login) db.persons;
}
after_effect (effect.PersonGone number) db = record db {
  persons = without_row number_of_person number db.persons;
  texts = map (without_number number) db.texts;
}
after_effect (effect.PersonField number what) db =
    with_changed_person number (Persons.with_field what) db
after_effect (effect.Password number hash) db = with_changed_person number (with_hash hash) db
after_effect (effect.LoggedIn number at user) db = with_changed_person number (logged_in at user) db
after_effect (effect.Counted number counter by) db =
    with_changed_person number (count_up counter by) db
after_effect (effect.TextAdded number author at body) db = record db {
  texts = with_row number_of_text (fresh_text number author at body) db.texts;
  next_text = number + 1;
}
after_effect (effect.TextGone number) db =
    record db { texts = without_row number_of_text number db.texts }
after_effect (effect.RecipientAdded recipient) db = with_recipient recipient db
after_effect (effect.RecipientGone text conference) db =
    record db { recipients = without_recipient text conference db.recipients }
after_effect (effect.LinkAdded link) db = record db { links = db.links ++ link ∷ [] }
after_effect (effect.LinkGone child parent footnote) db =
    record db { links = without_link child parent footnote db.links }
after_effect (effect.MemberSet person conference position priority added_by added_at kind) db =
    record db {
      memberships = with_membership
          (member_row person conference position priority added_by added_at kind) db.memberships;
      reads = with_reader person conference db.reads;
    }
after_effect (effect.MemberGone person conference) db = record db {
  memberships = without_membership person conference db.memberships;
  reads = without_reader person conference db.reads;
}
after_effect (effect.ReadSet person conference at ranges) db = record db {
  memberships = read_at person conference at db.memberships;
  reads = with_read person conference (merge_all ranges) db.reads;
}
after_effect (effect.MarkSet person text kind) db = record db {
  marks = with_mark (record { person = person; text = text; kind = kind }) db.marks;
}
after_effect (effect.MarkGone person text) db =
    record db { marks = without_mark person text db.marks }
after_effect (effect.AuxAdded on_text object item) db = with_item on_text object item db
after_effect (effect.AuxGone on_text object number) db =
    record db { items = without_item on_text object number db.items }
after_effect (effect.Created person local text) db =
    with_changed_person person (with_created_drawn local)
    (with_changed_text text (with_created_local local) db)

-- An effect that does not fit changes nothing.
abbrev pub apply : Effect → Db → Db
apply what db = if fits what db then after_effect what db else db

abbrev pub apply_all : List Effect → Db → Db
apply_all [] db = db
apply_all (what ∷ effects) db = apply_all effects (apply what db)

-- each effect fits after those before it
abbrev pub all_fit : List Effect → Db → Bool
all_fit [] db = true
all_fit (what ∷ effects) db = fits what db && all_fit effects (apply what db)

-- those of the effects that fit, each after those before it
abbrev pub fitting_effects : List Effect → Db → List Effect
fitting_effects [] db = []
fitting_effects (what ∷ effects) db = let rest = fitting_effects effects (apply what db) in
    if fits what db then what ∷ rest else rest

-- every conference that is secret is read-protected too
abbrev pub IsProtected : Db → Type 0
IsProtected db = AllByRecursion (λ row. IsTrue (is_secret_protected row.kind)) db.conferences
