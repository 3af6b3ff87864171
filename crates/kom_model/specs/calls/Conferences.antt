-- The calls about conferences. (Protocol A, "Protocol Requests".)
use Rattle.std.specs.Prelude.{ℕ, ◌-◌, Bool, false, ◌==◌, ◌||◌, ◌&&◌, not, nat_lt, bit_and}
use Rattle.std.specs.Prelude.{List, [], ◌∷◌, ◌++◌, map, filter, find, reverse, Option, Some, None}
use Rattle.std.specs.Prelude.{if◌then◌else◌}
use Rattle.std.specs.List.{range_with_len, filter_map}
use Rattle.kom_types.specs.declared.limits.TheConstants.{LONGEST_NAME}
use Rattle.kom_types.specs.declared.errors.TheConstants as error
use Rattle.kom_types.specs.AuxItems.{items_from}
use Rattle.kom_types.specs.Bits.{alike}
use Rattle.kom_types.specs.declared.aux_items.Object.TheVariants as object
use Rattle.kom_types.specs.declared.conferences.ConferenceName.{ConferenceName}
use Rattle.kom_types.specs.declared.conferences.ConferenceRow.{ConferenceRow}
use Rattle.kom_types.specs.declared.conferences.NewConference.{NewConference}
use Rattle.kom_types.specs.declared.effects.ConfField.{ConfField}
use Rattle.kom_types.specs.declared.effects.ConfField.TheVariants as field
use Rattle.kom_types.specs.declared.effects.Counter.TheVariants as counter
use Rattle.kom_types.specs.declared.effects.Effect.{Effect}
use Rattle.kom_types.specs.declared.effects.Effect.TheVariants as effect
use Rattle.kom_types.specs.declared.replies.Reply.{Reply}
use Rattle.kom_types.specs.declared.replies.Reply.TheVariants as reply
use Rattle.kom_types.specs.declared.seats.Seat.{Seat}
use Rattle.kom_types.specs.declared.session_changes.SessionChange.{SessionChange}
use Rattle.kom_types.specs.declared.session_changes.SessionChange.TheVariants as change
use Rattle.kom_types.specs.Names.{fold, finds}
use Rattle.kom_types.specs.tables.Conferences.{is_letterbox, is_secret_conference}
use Rattle.kom_types.specs.tables.Persons.{may_create_conferences}
use Rattle.kom_model.specs.declared.viewers.Viewer.{Viewer}
use Rattle.kom_model.specs.Db.{Db, conference_of, person_of, conferences_of, next_conference_of}
use Rattle.kom_model.specs.Db.{next_local_of, locals_of, marks_of, memberships_at, items_of}
use Rattle.kom_model.specs.Rights.{sees}
use Rattle.kom_model.specs.Shown.{conference_told}
use Rattle.kom_model.specs.calls.AuxItems.{items_added}
use Rattle.kom_model.specs.calls.Call.{Asked, Definition, answer, done_with, without_guard}
use Rattle.kom_model.specs.calls.Guards.{Guard, with_guards, refusal, unless, caller}
use Rattle.kom_model.specs.calls.Guards.{login_guard, conference_guard, supervisor_guard}
use Rattle.kom_model.specs.calls.Guards.{size_guard}
use Rattle.kom_model.specs.calls.Guards.{name_guard, free_guard, type_guard, drawn_guard}
use Rattle.kom_model.specs.calls.Guards.{new_items_guard, with_items, text_or_none_guard}
use Rattle.kom_model.specs.calls.Guards.{conference_or_none_guard}
use Rattle.kom_model.specs.calls.Sessions.{counts, all_left}

-- the guards of every call by which a conference is changed, or goes
abbrev pub owner_guards : Asked → ℕ → List Guard
owner_guards asked number =
    login_guard (caller asked) ∷ conference_guard asked.db (caller asked) number
    ∷ supervisor_guard asked.db (caller asked) number ∷ []

-- call 3, change-name
abbrev pub change_name : Asked → ℕ → List ℕ → Definition
change_name asked number name = with_guards
    (owner_guards asked number ++ name_guard name ∷ free_guard asked.db number name ∷ [])
    (done_with (effect.ConfNamed number name ∷ []) [])

-- a field of a conference is set
abbrev pub set_field : Asked → ℕ → List Guard → ConfField → Definition
set_field asked number guards what =
    with_guards (owner_guards asked number ++ guards)
    (done_with (effect.ConfField number what ∷ []) [])

-- call 16, set-presentation, and call 17, set-etc-motd: a text, or 0
abbrev pub set_presentation : Asked → ℕ → ℕ → Definition
set_presentation asked number text = set_field asked number
    (text_or_none_guard asked.db (caller asked) text ∷ []) (field.Presentation text)

abbrev pub set_etc_motd : Asked → ℕ → ℕ → Definition
set_etc_motd asked number text = set_field asked number
    (text_or_none_guard asked.db (caller asked) text ∷ []) (field.Motd text)

-- call 18, set-supervisor; call 19, set-permitted-submitters; and call 20, set-super-conf: a
-- conference, or 0
abbrev pub set_supervisor : Asked → ℕ → ℕ → Definition
set_supervisor asked number other = set_field asked number
    (conference_or_none_guard asked.db (caller asked) other ∷ []) (field.Supervisor other)

abbrev pub set_permitted_submitters : Asked → ℕ → ℕ → Definition
set_permitted_submitters asked number other = set_field asked number
    (conference_or_none_guard asked.db (caller asked) other ∷ [])
    (field.PermittedSubmitters other)

abbrev pub set_super_conf : Asked → ℕ → ℕ → Definition
set_super_conf asked number other = set_field asked number
    (conference_or_none_guard asked.db (caller asked) other ∷ []) (field.SuperConference other)

-- a conference may get this type: a letterbox stays one and is not secret, and no other becomes one
abbrev pub may_become : Db → ℕ → ℕ → Bool
may_become db number kind = elim (conference_of db number) [
  | None ↦ false
  | Some row ↦ alike (is_letterbox kind) (is_letterbox row.kind)
      && not (is_letterbox kind && is_secret_conference kind)
]

-- call 21, set-conf-type
abbrev pub set_conf_type : Asked → ℕ → ℕ → Definition
set_conf_type asked number kind = set_field asked number
    (unless (may_become asked.db number kind) error.LETTERBOX number ∷ type_guard kind
    ∷ []) (field.Kind kind)

-- call 22, set-garb-nice; call 97, set-expire; and call 105, set-keep-commented: days
abbrev pub set_garb_nice : Asked → ℕ → ℕ → Definition
set_garb_nice asked number days = set_field asked number [] (field.Nice days)

abbrev pub set_expire : Asked → ℕ → ℕ → Definition
set_expire asked number days = set_field asked number [] (field.Expire days)

abbrev pub set_keep_commented : Asked → ℕ → ℕ → Definition
set_keep_commented asked number days = set_field asked number [] (field.KeepCommented days)

-- the person goes whose letterbox goes
abbrev pub gone_person : Db → ℕ → List Effect
gone_person db number =
    elim (person_of db number) [ None ↦ [] | Some row ↦ effect.PersonGone number ∷ [] ]

-- what hangs on a conference goes before it, and a letterbox takes its person along, whose sessions
-- are logged out first
abbrev pub gone_conference : Asked → ℕ → List Effect
gone_conference asked number =
    all_left asked number
    ++ map (λ pair. effect.RecipientGone pair.text number) (locals_of asked.db number)
    ++ map (λ row. effect.MarkGone number row.text) (marks_of asked.db number)
    ++ map (λ row. effect.MemberGone row.person row.conference) (memberships_at asked.db number)
    ++ map (λ item. effect.AuxGone false number item.number) (items_of asked.db false number)
    ++ gone_person asked.db number ++ effect.ConfGone number ∷ []

-- a session of the person whose letterbox goes is logged out; another that was in the conference is
-- in none then
abbrev pub left_by_deletion : ℕ → Seat → Option SessionChange
left_by_deletion number seat =
    if seat.person == number then Some (change.Person seat.number 0 false)
    else if seat.working == number then Some (change.Working seat.number 0) else None

-- call 11, delete-conf
abbrev pub delete_conf : Asked → ℕ → Definition
delete_conf asked number = with_guards
    (owner_guards asked number)
    (done_with (gone_conference asked number) (filter_map (left_by_deletion number) asked.seats))

-- a person that may make conferences, or the session is strong
abbrev pub may_make_conferences : Db → ℕ → Bool
may_make_conferences db person = elim (person_of db person) [
  | None ↦ false
  | Some row ↦ may_create_conferences row.privileges
]

abbrev pub create_conf_guard : Db → Viewer → Guard
create_conf_guard db caller =
    unless (may_make_conferences db caller.person || caller.strong) error.PERMISSION_DENIED 0

-- call 88, create-conf: no letterbox is made so
abbrev pub create_conf : Asked → NewConference → Definition
create_conf asked given =
    let number = next_conference_of asked.db in
    let by = (caller asked).person in
    with_guards
    (login_guard (caller asked) ∷ create_conf_guard asked.db (caller asked)
    ∷ name_guard given.name ∷ unless (not (is_letterbox given.kind)) error.LETTERBOX 0
    ∷ type_guard given.kind ∷ free_guard asked.db 0 given.name ∷ drawn_guard asked.db ∷ [])
    (with_items (new_items_guard object.Conference by given.aux_items) (record {
      reply = reply.Number number;
      effects =
          effect.ConfAdded number given.name given.kind asked.moment by by
          ∷ items_added false number (items_from 1 by asked.moment given.aux_items)
          ++ counts by counter.CreatedConferences 1;
      changes = [];
    }))

-- a conference is among those that are wanted: letterboxes, or the others
abbrev pub is_wanted : Bool → Bool → ConferenceRow → Bool
is_wanted persons conferences row = if is_letterbox row.kind then persons else conferences

-- what a look-up gives of a conference: its name, the first four bits of its type, its number
abbrev pub name_of : ConferenceRow → ConferenceName
name_of row = record { name = row.name; kind = bit_and row.kind 240; number = row.number }

-- call 76, lookup-z-name
abbrev pub lookup_z_name : Asked → List ℕ → Bool → Bool → Definition
lookup_z_name asked pattern persons conferences = with_guards
    (size_guard pattern LONGEST_NAME ∷ [])
    (answer (reply.ConferenceNames (map name_of (filter
    (λ row. finds pattern row.name && is_wanted persons conferences row
    && sees asked.db (caller asked) row.number)
    (conferences_of asked.db)))))

-- what a conference is said to be to most clients
abbrev pub uconference_of : Db → ℕ → Reply
uconference_of db number = elim (conference_of db number) [
  | None ↦ reply.Refused error.UNDEFINED_CONFERENCE number
  | Some row ↦ reply.UConference (record {
    name = row.name;
    kind = row.kind;
    highest_local = next_local_of db number - 1;
    nice = row.nice;
  })
]

-- call 78, get-uconf-stat
abbrev pub get_uconf_stat : Asked → ℕ → Definition
get_uconf_stat asked number = with_guards
    (login_guard (caller asked) ∷ conference_guard asked.db (caller asked) number ∷ [])
    (answer (uconference_of asked.db number))

-- call 85, get-collate-table: what each byte counts as
abbrev pub get_collate_table : Definition
get_collate_table = without_guard (answer (reply.Text (map fold (range_with_len 0 256))))

-- what is replied of a conference
abbrev pub conference_reply : Db → Viewer → ℕ → Reply
conference_reply db caller number = elim (conference_of db number) [
  | None ↦ reply.Refused error.UNDEFINED_CONFERENCE number
  | Some row ↦ reply.Conference (conference_told db caller row)
]

-- call 91, get-conf-stat
abbrev pub get_conf_stat : Asked → ℕ → Definition
get_conf_stat asked number = with_guards
    (login_guard (caller asked) ∷ conference_guard asked.db (caller asked) number ∷ [])
    (answer (conference_reply asked.db (caller asked) number))

-- call 114, first-unused-conf-no
abbrev pub first_unused_conf_no : Asked → Definition
first_unused_conf_no asked = without_guard (answer (reply.Number (next_conference_of asked.db)))

-- the first of these conferences that is seen
abbrev pub first_seen : Asked → (ConferenceRow → Bool) → List ConferenceRow → Option ConferenceRow
first_seen asked test rows =
    find (λ row. test row && sees asked.db (caller asked) row.number) rows

-- a number is answered, or that there is none
abbrev pub nearest : Asked → ℕ → Option ConferenceRow → Definition
nearest asked start None =
    with_guards (login_guard (caller asked) ∷ refusal error.UNDEFINED_CONFERENCE start
    ∷ []) (answer reply.Done)
nearest asked start (Some row) =
    with_guards (login_guard (caller asked) ∷ []) (answer (reply.Number row.number))

-- call 116, find-next-conf-no
abbrev pub find_next_conf_no : Asked → ℕ → Definition
find_next_conf_no asked start = nearest asked start
    (first_seen asked (λ row. nat_lt start row.number) (conferences_of asked.db))

-- call 117, find-previous-conf-no
abbrev pub find_previous_conf_no : Asked → ℕ → Definition
find_previous_conf_no asked start = nearest asked start
    (first_seen asked (λ row. nat_lt row.number start) (reverse (conferences_of asked.db)))
