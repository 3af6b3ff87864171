-- The calls about memberships and what was read. (Protocol A, "Protocol Requests".)
use Rattle.std.specs.Prelude.{ℕ, ◌+◌, ◌-◌, Bool, false, ◌==◌, ◌||◌, ◌&&◌, not, nat_le, nat_lt}
use Rattle.std.specs.Prelude.{List, [], ◌∷◌, ◌++◌, length, map, filter, take, drop, min, bit_or}
use Rattle.std.specs.Prelude.{Some, None, if◌then◌else◌}
use Rattle.kom_types.specs.declared.limits.TheConstants.{MOST_MEMBERSHIPS}
use Rattle.kom_types.specs.declared.errors.TheConstants as error
use Rattle.kom_types.specs.declared.effects.Counter.TheVariants as counter
use Rattle.kom_types.specs.declared.effects.Effect.{Effect}
use Rattle.kom_types.specs.declared.effects.Effect.TheVariants as effect
use Rattle.kom_types.specs.declared.memberships.Membership.{Membership}
use Rattle.kom_types.specs.declared.memberships.MembershipRow.{MembershipRow}
use Rattle.kom_types.specs.declared.memberships.RangesShown.{RangesShown}
use Rattle.kom_types.specs.declared.memberships.RangesShown.TheVariants as shown
use Rattle.kom_types.specs.declared.memberships.ReadRange.{ReadRange}
use Rattle.kom_types.specs.declared.replies.Reply.{Reply}
use Rattle.kom_types.specs.declared.replies.Reply.TheVariants as reply
use Rattle.kom_types.specs.declared.seats.Seat.{Seat}
use Rattle.kom_types.specs.declared.session_changes.SessionChange.{SessionChange}
use Rattle.kom_types.specs.declared.session_changes.SessionChange.TheVariants as change
use Rattle.kom_types.specs.tables.Conferences.{is_read_protected, forbids_secret}
use Rattle.kom_types.specs.tables.Persons.{last_count}
use Rattle.read_ranges.specs.Changed.{size_of, all_marked, mark_unread, up_to, has_unread}
use Rattle.kom_model.specs.declared.viewers.Viewer.{Viewer}
use Rattle.kom_model.specs.Db.{Db, conference_of, membership_of, membership_kind_of}
use Rattle.kom_model.specs.Db.{memberships_of, read_of, next_local_of, first_local_of}
use Rattle.kom_model.specs.Rights.{is_member, supervises, reads_conference}
use Rattle.kom_model.specs.Shown.{shows_membership}
use Rattle.kom_types.specs.tables.Memberships.{is_passive, is_secret_membership, member_of}
use Rattle.kom_model.specs.Shown.{is_reserved, members_shown, memberships_shown, ranges_shown}
use Rattle.kom_model.specs.Shown.{time_shown}
use Rattle.kom_model.specs.calls.Call.{Asked, Definition, answer, done_with}
use Rattle.kom_model.specs.calls.Guards.{Guard, with_guards, unless, caller, login_guard}
use Rattle.kom_model.specs.calls.Guards.{conference_guard, person_guard, supervisor_guard}
use Rattle.kom_model.specs.calls.Sessions.{counts}

-- the person has a membership in the conference
abbrev pub member_guard : Db → ℕ → ℕ → Guard
member_guard db person conference =
    unless (is_member db person conference) error.NOT_MEMBER conference

-- the membership of a person in a conference is there and shown to the caller
abbrev pub shows_row : Db → Viewer → ℕ → ℕ → Bool
shows_row db caller person conference = elim (membership_kind_of db person conference) [
  | None ↦ false
  | Some kind ↦ shows_membership db caller person conference kind
]

abbrev pub row_guard : Db → Viewer → ℕ → ℕ → Guard
row_guard db caller person conference =
    unless (shows_row db caller person conference) error.NOT_MEMBER conference

-- the highest local number that was drawn in a conference: 0 if none was
abbrev pub highest_of : Db → ℕ → ℕ
highest_of db conference = next_local_of db conference - 1

-- the local number was drawn; and it is one
abbrev pub drawn_local_guard : ℕ → ℕ → Guard
drawn_local_guard highest local = unless (nat_le local highest) error.NO_SUCH_LOCAL_TEXT local

abbrev pub local_guards : ℕ → ℕ → List Guard
local_guards highest local =
    unless (not (local == 0)) error.LOCAL_TEXT_ZERO 0 ∷ drawn_local_guard highest local ∷ []

-- the guards of every call by which the caller tells what it has read of a conference
abbrev pub reader_guards : Asked → ℕ → List Guard
reader_guards asked conference =
    login_guard (caller asked) ∷ conference_guard asked.db (caller asked) conference
    ∷ member_guard asked.db (caller asked).person conference ∷ []

-- the caller has read these ranges of a conference now
abbrev pub reads_now : Asked → ℕ → List ReadRange → Effect
reads_now asked conference ranges =
    effect.ReadSet (caller asked).person conference asked.moment ranges

-- what the caller had read of a conference
abbrev pub had_read : Asked → ℕ → List ReadRange
had_read asked conference = read_of asked.db (caller asked).person conference

-- the guards of each of these local numbers in turn
abbrev pub all_locals_guards : ℕ → List ℕ → List Guard
all_locals_guards highest [] = []
all_locals_guards highest (local ∷ locals) =
    local_guards highest local ++ all_locals_guards highest locals

-- call 27, mark-as-read: the texts that were not read before are counted
abbrev pub mark_as_read : Asked → ℕ → List ℕ → Definition
mark_as_read asked conference locals =
    let ranges = all_marked locals (had_read asked conference) in
    with_guards
    (reader_guards asked conference
    ++ all_locals_guards (highest_of asked.db conference) locals)
    (done_with
    (reads_now asked conference ranges
    ∷ counts (caller asked).person counter.ReadTexts
    (size_of ranges - size_of (had_read asked conference))) [])

-- call 109, mark-as-unread
abbrev pub mark_as_unread : Asked → ℕ → ℕ → Definition
mark_as_unread asked conference local = with_guards
    (reader_guards asked conference ++ local_guards (highest_of asked.db conference) local)
    (done_with (reads_now asked conference (mark_unread local (had_read asked conference)) ∷ []) [])

-- call 40, set-unread: all but the last ones were read
abbrev pub set_unread : Asked → ℕ → ℕ → Definition
set_unread asked conference count = with_guards
    (reader_guards asked conference)
    (done_with
    (reads_now asked conference (up_to (highest_of asked.db conference - count)) ∷ []) [])

-- call 77, set-last-read: all up to this one were read; 0 is none
abbrev pub set_last_read : Asked → ℕ → ℕ → Definition
set_last_read asked conference local = with_guards
    (reader_guards asked conference
    ++ drawn_local_guard (highest_of asked.db conference) local ∷ [])
    (done_with (reads_now asked conference (up_to local) ∷ []) [])

-- the range at a place of a list, after one with this end: it is one, it comes after that, and its
-- numbers were drawn
abbrev pub range_guards : ℕ → ℕ → ℕ → ReadRange → List Guard
range_guards highest place end one =
    unless (not (one.first == 0) && nat_le one.first one.last)
    error.INVALID_RANGE (min place 4294967295)
    ∷ unless (nat_lt end one.first) error.INVALID_RANGE_LIST (min place 4294967295)
    ∷ drawn_local_guard highest one.last ∷ []

abbrev pub ranges_guards : ℕ → ℕ → ℕ → List ReadRange → List Guard
ranges_guards highest place end [] = []
ranges_guards highest place end (one ∷ ranges) =
    range_guards highest place end one ++ ranges_guards highest (place + 1) one.last ranges

-- call 110, set-read-ranges: ranges that touch become one
abbrev pub set_read_ranges : Asked → ℕ → List ReadRange → Definition
set_read_ranges asked conference ranges = with_guards
    (reader_guards asked conference
    ++ ranges_guards (highest_of asked.db conference) 0 0 ranges)
    (done_with (reads_now asked conference ranges ∷ []) [])

-- the guards of the conference that the caller goes into: none with 0
abbrev pub entered_guards : Asked → ℕ → List Guard
entered_guards asked conference = if conference == 0 then [] else
    conference_guard asked.db (caller asked) conference
    ∷ member_guard asked.db (caller asked).person conference ∷ []

-- call 2, change-conference: into a conference that the caller is a member of, or 0, into none
abbrev pub change_conference : Asked → ℕ → Definition
change_conference asked conference = with_guards
    (login_guard (caller asked) ∷ entered_guards asked conference)
    (done_with [] (change.Working asked.session conference ∷ []))

-- the sessions of a person that are in a conference are in none then
abbrev pub is_in_conference : ℕ → ℕ → Seat → Bool
is_in_conference person conference seat = seat.person == person && seat.working == conference

abbrev pub left_by : ℕ → ℕ → List Seat → List SessionChange
left_by person conference seats =
    map (λ seat. change.Working seat.number 0) (filter (is_in_conference person conference) seats)

-- the caller may end a membership, but nobody's in its own letterbox
abbrev pub may_end : Db → Viewer → ℕ → ℕ → Bool
may_end db caller conference person = not (person == conference)
    && (supervises db caller.person person || supervises db caller.person conference
    || caller.strong)

-- call 15, sub-member
abbrev pub sub_member : Asked → ℕ → ℕ → Definition
sub_member asked conference person = with_guards
    (login_guard (caller asked) ∷ conference_guard asked.db (caller asked) conference
    ∷ person_guard asked.db person ∷ row_guard asked.db (caller asked) person conference
    ∷ unless (may_end asked.db (caller asked) conference person)
    error.PERMISSION_DENIED conference ∷ [])
    (done_with (effect.MemberGone person conference ∷ []) (left_by person conference asked.seats))

-- a conference takes no secret memberships
abbrev pub refuses_secret : Db → ℕ → Bool
refuses_secret db conference = elim (conference_of db conference) [
  | None ↦ false
  | Some row ↦ forbids_secret row.kind
]

abbrev pub secret_guard : Db → ℕ → ℕ → Guard
secret_guard db conference kind =
    unless (not (is_secret_membership kind && refuses_secret db conference))
    error.INVALID_MEMBERSHIP_TYPE 0

-- the caller is near a person: it is the person, supervises it, or its session is strong
abbrev pub is_near : Db → Viewer → ℕ → Bool
is_near db caller person =
    caller.person == person || supervises db caller.person person || caller.strong

-- Whether a person may become a member: through one who is near if it reads the conference itself
-- or the caller supervises that; through another if the conference is open, or the caller
-- supervises it.
abbrev pub is_open : Db → ℕ → Bool
is_open db conference = elim (conference_of db conference) [
  | None ↦ false
  | Some row ↦ not (is_read_protected row.kind)
]

abbrev pub reads_itself : Db → ℕ → ℕ → Bool
reads_itself db person conference =
    reads_conference db (record { person = person; strong = false }) conference

abbrev pub may_join : Db → Viewer → ℕ → ℕ → Bool
may_join db caller person conference =
    if is_near db caller person
    then reads_itself db person conference || supervises db caller.person conference
    || caller.strong
    else is_open db conference || supervises db caller.person conference

-- a membership that is not there may begin, and there is room for it
abbrev pub joins_guards : Db → Viewer → ℕ → ℕ → List Guard
joins_guards db caller person conference = if is_member db person conference then [] else
    unless (may_join db caller person conference) error.ACCESS_DENIED conference
    ∷ unless (nat_lt (length (memberships_of db person)) MOST_MEMBERSHIPS)
    error.TEMPORARY_FAILURE person ∷ []

-- what is set of a membership with another priority, place and type, and of a new one: a caller who
-- is not near makes an invitation
abbrev pub set_member : MembershipRow → ℕ → ℕ → ℕ → Effect
set_member row priority place kind = effect.MemberSet
    row.person row.conference place priority row.added_by row.added_at kind

abbrev pub joins : Asked → ℕ → ℕ → ℕ → ℕ → ℕ → Effect
joins asked person conference priority place kind = effect.MemberSet
    person conference place priority (caller asked).person asked.moment
    (if is_near asked.db (caller asked) person then kind else bit_or kind 128)

-- what add-member sets: nothing, of a membership that is there, for a caller who is not near
abbrev pub member_effects : Asked → ℕ → ℕ → ℕ → ℕ → ℕ → List Effect
member_effects asked person conference priority place kind =
    elim (membership_of asked.db person conference) [
      | None ↦ joins asked person conference priority place kind ∷ []
      | Some row ↦ if is_near asked.db (caller asked) person
          then set_member row priority place kind ∷ [] else []
    ]

-- call 100, add-member
abbrev pub add_member : Asked → ℕ → ℕ → ℕ → ℕ → ℕ → Definition
add_member asked conference person priority place kind = with_guards
    (login_guard (caller asked) ∷ conference_guard asked.db (caller asked) conference
    ∷ person_guard asked.db person ∷ secret_guard asked.db conference kind
    ∷ joins_guards asked.db (caller asked) person conference)
    (done_with (member_effects asked person conference priority place kind) [])

-- a membership that is there gets another type
abbrev pub type_effects : Db → ℕ → ℕ → ℕ → List Effect
type_effects db person conference kind = elim (membership_of db person conference) [
  | None ↦ []
  | Some row ↦ set_member row row.priority row.position kind ∷ []
]

-- call 102, set-membership-type
abbrev pub set_membership_type : Asked → ℕ → ℕ → ℕ → Definition
set_membership_type asked person conference kind = with_guards
    (login_guard (caller asked) ∷ person_guard asked.db person
    ∷ conference_guard asked.db (caller asked) conference
    ∷ row_guard asked.db (caller asked) person conference
    ∷ supervisor_guard asked.db (caller asked) person ∷ secret_guard asked.db conference kind ∷ [])
    (done_with (type_effects asked.db person conference kind) [])

-- a membership is shown to the caller
abbrev pub is_shown : Asked → MembershipRow → Bool
is_shown asked row =
    shows_membership asked.db (caller asked) row.person row.conference row.kind

-- a conference of which a person has not read all texts that are there
abbrev pub is_unread : Db → MembershipRow → Bool
is_unread db row = has_unread (first_local_of db row.conference) (highest_of db row.conference)
    (read_of db row.person row.conference)

-- call 52, get-unread-confs
abbrev pub get_unread_confs : Asked → ℕ → Definition
get_unread_confs asked person = with_guards
    (login_guard (caller asked) ∷ person_guard asked.db person
    ∷ unless (not (is_reserved asked.db person)
    || supervises asked.db (caller asked).person person || (caller asked).strong)
    error.PERMISSION_DENIED person ∷ [])
    (answer (reply.Numbers (map (λ row. row.conference) (filter
    (λ row. is_shown asked row && not (is_passive row.kind) && is_unread asked.db row)
    (memberships_of asked.db person)))))

-- a part of a list from a place on; the place is in it, or 0
abbrev pub part : {A : Type 0} → ℕ → ℕ → List A → List A
part first count rows = take count (drop first rows)

abbrev pub place_guard : {A : Type 0} → ℕ → List A → Guard
place_guard first rows =
    unless (first == 0 || nat_lt first (length rows)) error.INDEX_OUT_OF_RANGE first

-- the members of a conference, and the memberships of a person, that are shown to the caller
abbrev pub shown_members : Asked → ℕ → List MembershipRow
shown_members asked conference = members_shown asked.db (caller asked) conference

abbrev pub shown_memberships : Asked → ℕ → List MembershipRow
shown_memberships asked person = memberships_shown asked.db (caller asked) person

-- call 101, get-members
abbrev pub get_members : Asked → ℕ → ℕ → ℕ → Definition
get_members asked conference first count = with_guards
    (login_guard (caller asked) ∷ conference_guard asked.db (caller asked) conference
    ∷ place_guard first (shown_members asked conference) ∷ [])
    (answer (reply.Members (map member_of (part first count (shown_members asked conference)))))

-- at most so many ranges, or with 0 all; and themselves, or how many they are
abbrev pub at_most : ℕ → List ReadRange → List ReadRange
at_most most ranges = if most == 0 then ranges else take most ranges

abbrev pub ranges_or_count : Bool → List ReadRange → RangesShown
ranges_or_count want_ranges ranges =
    if want_ranges then shown.All ranges else shown.Count (length ranges)

-- what the caller is told that a person has read, and when that was set
abbrev pub ranges_told : Asked → MembershipRow → List ReadRange
ranges_told asked row = ranges_shown asked.db (caller asked) row

abbrev pub time_told : Asked → MembershipRow → ℕ
time_told asked row = time_shown asked.db (caller asked) row

-- a membership as it is told, at this place among those that are shown
abbrev pub membership_told : Asked → Bool → ℕ → ℕ → MembershipRow → Membership
membership_told asked want_ranges most place row = record {
  position = min place last_count;
  last_time_read = time_told asked row;
  conference = row.conference;
  priority = row.priority;
  ranges = ranges_or_count want_ranges (at_most most (ranges_told asked row));
  added_by = row.added_by;
  added_at = row.added_at;
  kind = row.kind;
}

-- the place of a membership among those of its person that are shown
abbrev pub place_of : Asked → MembershipRow → ℕ
place_of asked row =
    length (filter (λ other. nat_lt other.position row.position && is_shown asked other)
    (memberships_of asked.db row.person))

abbrev pub told_reply : Asked → ℕ → ℕ → Bool → ℕ → Reply
told_reply asked person conference want_ranges most =
    elim (membership_of asked.db person conference) [
      | None ↦ reply.Refused error.NOT_MEMBER conference
      | Some row ↦
          reply.Membership (membership_told asked want_ranges most (place_of asked row) row)
    ]

-- call 107, query-read-texts
abbrev pub query_read_texts : Asked → ℕ → ℕ → Bool → ℕ → Definition
query_read_texts asked person conference want_ranges most = with_guards
    (login_guard (caller asked) ∷ person_guard asked.db person
    ∷ conference_guard asked.db (caller asked) conference
    ∷ row_guard asked.db (caller asked) person conference ∷ [])
    (answer (told_reply asked person conference want_ranges most))

-- rows that are told with rising places, from this one on
abbrev pub all_told : Asked → Bool → ℕ → ℕ → List MembershipRow → List Membership
all_told asked want_ranges most place [] = []
all_told asked want_ranges most place (row ∷ rows) =
    membership_told asked want_ranges most place row
    ∷ all_told asked want_ranges most (place + 1) rows

-- call 108, get-membership
abbrev pub get_membership : Asked → ℕ → ℕ → ℕ → Bool → ℕ → Definition
get_membership asked person first count want_ranges most = with_guards
    (login_guard (caller asked) ∷ person_guard asked.db person
    ∷ place_guard first (shown_memberships asked person) ∷ [])
    (answer (reply.Memberships (all_told asked want_ranges most first
    (part first count (shown_memberships asked person)))))
