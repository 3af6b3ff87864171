-- The guards that calls share: what each refuses, or none. Which code and status each gives is this
-- server's choice. (Protocol A, "Error Codes".)
use Rattle.std.specs.Prelude.{◌≡◌, ℕ, Bool, true, false, ◌==◌, ◌||◌, ◌&&◌, not, min, nat_le}
use Rattle.std.specs.Prelude.{bytes_eq}
use Rattle.std.specs.Prelude.{List, [], ◌∷◌, length, find, Option, Some, None, is_some}
use Rattle.std.specs.Prelude.{if◌then◌else◌, Result, Ok, Err}
use Rattle.kom_types.specs.declared.limits.TheConstants.{LAST_CONFERENCE, LONGEST_NAME}
use Rattle.kom_types.specs.declared.errors.TheConstants as error
use Rattle.kom_types.specs.AuxItems.{refused_change}
use Rattle.kom_types.specs.declared.aux_items.Adder.{Adder}
use Rattle.kom_types.specs.declared.aux_items.AuxInput.{AuxInput}
use Rattle.kom_types.specs.declared.aux_items.AuxRow.{AuxRow}
use Rattle.kom_types.specs.declared.aux_items.Object.{Object}
use Rattle.kom_types.specs.declared.conferences.ConferenceRow.{ConferenceRow}
use Rattle.kom_types.specs.declared.decisions.Decision.{Decision}
use Rattle.kom_types.specs.declared.seats.Seat.{Seat}
use Rattle.kom_types.specs.Names.{clash, is_name}
use Rattle.kom_types.specs.tables.Conferences.{is_secret_protected, is_letterbox}
use Rattle.kom_types.specs.tables.Persons.{password_hash}
use Rattle.kom_model.specs.declared.call_errors.Refused.{Refused}
use Rattle.kom_model.specs.declared.viewers.Viewer.{Viewer}
use Rattle.kom_model.specs.Db.{Db, person_of, conferences_of, next_conference_of}
use Rattle.kom_model.specs.Viewers.{viewer_of}
use Rattle.kom_model.specs.Rights.{sees, supervises, reads, reads_conference, may_submit}
use Rattle.kom_model.specs.calls.Call.{Asked, Definition, seat_of, refuse}

-- what a guard refuses, or none
abbrev pub Guard : Type 0
Guard = Option Refused

-- the code of a guard lets a call pass, or refuses it
abbrev pub Guards : Guard → Result Unit Refused → Type 0
Guards guard (Ok done) = guard ≡ None
Guards guard (Err refused) = guard ≡ Some refused

abbrev pub refusal : ℕ → ℕ → Guard
refusal code status = Some (record { code = code; status = status })

abbrev pub unless : Bool → ℕ → ℕ → Guard
unless holds code status = if holds then None else refusal code status

-- what the first guard refuses that refuses anything
abbrev pub first_refusal : List Guard → Guard
first_refusal [] = None
first_refusal (None ∷ guards) = first_refusal guards
first_refusal (Some refused ∷ guards) = Some refused

-- a call that these guards refuse, the first before the next, and that else comes to this
abbrev pub with_guards : List Guard → Decision → Definition
with_guards guards decision = record { early = first_refusal guards; rest = decision }

-- who looks from a seat: nobody, if there is none
abbrev pub viewer_at : Db → Option Seat → Viewer
viewer_at db None = record { person = 0; strong = false }
viewer_at db (Some seat) = viewer_of db seat

-- who calls
abbrev pub caller : Asked → Viewer
caller asked = viewer_at asked.db (seat_of asked)

-- somebody is logged in
abbrev pub login_guard : Viewer → Guard
login_guard caller = unless (not (caller.person == 0)) error.LOGIN_FIRST 0

-- the conference is there and seen
abbrev pub conference_guard : Db → Viewer → ℕ → Guard
conference_guard db caller number =
    if number == 0 then refusal error.CONFERENCE_ZERO 0
    else unless (sees db caller number) error.UNDEFINED_CONFERENCE number

-- the text is there and read
abbrev pub text_guard : Db → Viewer → ℕ → Guard
text_guard db caller number =
    if number == 0 then refusal error.TEXT_ZERO 0
    else unless (reads db caller number) error.NO_SUCH_TEXT number

-- the same of one that a call may name, or 0 for none
abbrev pub conference_or_none_guard : Db → Viewer → ℕ → Guard
conference_or_none_guard db caller number =
    if number == 0 then None else conference_guard db caller number

abbrev pub text_or_none_guard : Db → Viewer → ℕ → Guard
text_or_none_guard db caller number = if number == 0 then None else text_guard db caller number

-- the texts of the conference are shown to the caller; and the caller may send some to it
abbrev pub reads_guard : Db → Viewer → ℕ → Guard
reads_guard db caller conference =
    unless (reads_conference db caller conference) error.ACCESS_DENIED conference

abbrev pub submit_guard : Db → Viewer → ℕ → Guard
submit_guard db caller conference =
    unless (may_submit db caller conference) error.ACCESS_DENIED conference

-- the person is there
abbrev pub person_guard : Db → ℕ → Guard
person_guard db number =
    if number == 0 then refusal error.CONFERENCE_ZERO 0
    else unless (is_some (person_of db number)) error.UNDEFINED_PERSON number

-- the caller's session is strong
abbrev pub strong_guard : Viewer → Guard
strong_guard caller = unless caller.strong error.PERMISSION_DENIED 0

-- the caller supervises the conference
abbrev pub supervisor_guard : Db → Viewer → ℕ → Guard
supervisor_guard db caller number =
    unless (supervises db caller.person number || caller.strong) error.PERMISSION_DENIED number

-- the seat of a session
abbrev pub seat_at : List Seat → ℕ → Option Seat
seat_at seats number = find (λ seat. seat.number == number) seats

-- the session is there, and no call has ended it
abbrev pub session_guard : List Seat → ℕ → Guard
session_guard seats number = elim (seat_at seats number) [
  | None ↦ refusal error.UNDEFINED_SESSION number
  | Some seat ↦ unless (not seat.ended) error.UNDEFINED_SESSION number
]

-- there are not too many bytes
abbrev pub size_guard : List ℕ → ℕ → Guard
size_guard bytes most = unless (nat_le (length bytes) most) error.STRING_TOO_LONG most

-- the name is no longer than a name may be, and the bytes may be a name
abbrev pub name_guard : List ℕ → Guard
name_guard name =
    first_refusal (size_guard name LONGEST_NAME ∷ unless (is_name name) error.BAD_NAME 0 ∷ [])

-- another conference than this one has a name that clashes: a letterbox, or another
abbrev pub taken_by : ConferenceRow → Guard
taken_by row =
    if is_letterbox row.kind then refusal error.PERSON_EXISTS 0
    else refusal error.CONFERENCE_EXISTS 0

-- no conference but the one of this number, or 0, has a name that clashes
abbrev pub free_guard : Db → ℕ → List ℕ → Guard
free_guard db number name =
    elim (find (λ row. not (row.number == number) && clash row.name name) (conferences_of db)) [
      | None ↦ None
      | Some row ↦ taken_by row
    ]

-- a secret conference is read-protected too
abbrev pub type_guard : ℕ → Guard
type_guard kind = unless (is_secret_protected kind) error.SECRET_PUBLIC 0

-- a conference's number is left
abbrev pub drawn_guard : Db → Guard
drawn_guard db = unless (nat_le (next_conference_of db) LAST_CONFERENCE) error.TEMPORARY_FAILURE 0

-- a person has this password, or the caller's session is strong
abbrev pub agrees : Db → ℕ → List ℕ → Bool
agrees db person password = elim (person_of db person) [
  | None ↦ false
  | Some row ↦ bytes_eq row.hash (password_hash person password)
]

abbrev pub password_guard : Db → Viewer → ℕ → List ℕ → Guard
password_guard db caller person password =
    unless (agrees db person password || caller.strong) error.INVALID_PASSWORD person

-- A change of the aux-items of an object passes, or is refused for the first entry that may not be:
-- its place in its list is the status, which stops at 4294967295.
abbrev pub items_guard : Object → Adder → List AuxRow → List ℕ → List AuxInput → Guard
items_guard on adder items deleted added =
    elim (refused_change on adder items deleted added) [
      | None ↦ None
      | Some refused ↦ refusal refused.code (min refused.index 4294967295)
    ]

-- the same of the items that an object is made with: who makes it owns it
abbrev pub new_items_guard : Object → ℕ → List AuxInput → Guard
new_items_guard on maker added =
    items_guard on (record { person = maker; owns = true }) [] [] added

-- what a call comes to that adds aux-items
abbrev pub with_items : Guard → Decision → Decision
with_items None decision = decision
with_items (Some refused) decision = refuse refused
