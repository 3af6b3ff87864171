-- The calls about sessions. (Protocol A, "Protocol Requests".)
use Rattle.std.specs.Prelude.{ℕ, ◌-◌, ◌^◌, Bool, false, ◌==◌, ◌||◌, ◌&&◌, not, nat_le, min}
use Rattle.std.specs.Prelude.{List, [], ◌∷◌, ◌++◌, length, map}
use Rattle.std.specs.Prelude.{Option, Some, None, find, filter, fold, bit_or, if◌then◌else◌}
use Rattle.std.specs.List.{flat_map}
use Rattle.kom_types.specs.declared.limits.TheConstants.{LONGEST_MESSAGE, LONGEST_NAME}
use Rattle.kom_types.specs.declared.async_numbers.TheConstants.{MESSAGE_NUMBERS}
use Rattle.kom_types.specs.declared.errors.TheConstants as error
use Rattle.kom_types.specs.declared.effects.Counter.{Counter}
use Rattle.kom_types.specs.declared.effects.Counter.TheVariants as counter
use Rattle.kom_types.specs.declared.effects.Effect.{Effect}
use Rattle.kom_types.specs.declared.effects.Effect.TheVariants as effect
use Rattle.kom_types.specs.declared.replies.Reply.{Reply}
use Rattle.kom_types.specs.declared.replies.Reply.TheVariants as reply
use Rattle.kom_types.specs.declared.seats.Seat.{Seat}
use Rattle.kom_types.specs.declared.session_changes.SessionChange.{SessionChange}
use Rattle.kom_types.specs.declared.session_changes.SessionChange.TheVariants as change
use Rattle.kom_types.specs.declared.sessions.ClientVersion.{ClientVersion}
use Rattle.kom_types.specs.declared.sessions.DynamicSession.{DynamicSession}
use Rattle.kom_types.specs.declared.sessions.StaticSession.{StaticSession}
use Rattle.kom_types.specs.Bits.{is_on}
use Rattle.kom_types.specs.declared.decisions.Decision.{Decision}
use Rattle.kom_types.specs.tables.Persons.{last_count}
use Rattle.kom_model.specs.Kinds.{is_among}
use Rattle.kom_model.specs.Messages.{send_message}
use Rattle.kom_model.specs.Rights.{supervises}
use Rattle.kom_model.specs.Sending.{accepts, delivered_to}
use Rattle.kom_model.specs.Shown.{working_shown}
use Rattle.kom_model.specs.calls.Call.{Asked, Definition, answer, done_with, without_guard, seat_of}
use Rattle.kom_model.specs.calls.Guards.{with_guards, unless, caller, login_guard, session_guard}
use Rattle.kom_model.specs.calls.Guards.{size_guard, person_guard, password_guard, seat_at}
use Rattle.kom_model.specs.calls.Guards.{conference_or_none_guard}

-- call 56, who-am-i: the number of the caller's session
abbrev pub who_am_i : Asked → Definition
who_am_i asked = without_guard (answer (reply.Number asked.session))

abbrev pub is_message : ℕ → Bool
is_message number = is_among MESSAGE_NUMBERS number

-- the numbers of messages in a list, as a bit for each
abbrev pub accepted_bits : List ℕ → ℕ
accepted_bits numbers = fold (λ bits number. bit_or bits (2 ^ number)) 0 (filter is_message numbers)

-- refused for the first number that is of no message
abbrev pub accept_reply : Option ℕ → Reply
accept_reply (Some number) = reply.Refused error.UNKNOWN_ASYNC number
accept_reply None = reply.Done

-- call 80, accept-async: the session accepts the messages of these numbers, also where the call is
-- refused for one that is of none
abbrev pub accept_async : Asked → List ℕ → Definition
accept_async asked numbers = without_guard (record {
  reply = accept_reply (find (λ number. not (is_message number)) numbers);
  effects = [];
  changes = change.Accept asked.session (accepted_bits numbers) ∷ [];
})

-- the messages that the caller's session accepts
abbrev pub accepted_of : Asked → List ℕ
accepted_of asked = elim (seat_of asked) [
  | Some seat ↦ filter (λ number. accepts number seat) MESSAGE_NUMBERS
  | None ↦ []
]

-- call 81, query-async: their numbers, rising
abbrev pub query_async : Asked → Definition
query_async asked = without_guard (answer (reply.Numbers (accepted_of asked)))

-- call 4, change-what-i-am-doing
abbrev pub change_what_i_am_doing : Asked → List ℕ → Definition
change_what_i_am_doing asked doing = with_guards
    (size_guard doing LONGEST_NAME ∷ [])
    (done_with [] (change.Doing asked.session doing ∷ []))

-- call 42, enable
abbrev pub enable : Asked → ℕ → Definition
enable asked level = with_guards
    (login_guard (caller asked) ∷ [])
    (done_with [] (change.Level asked.session level ∷ []))

-- the caller's client has told what it is
abbrev pub has_told : Asked → Bool
has_told asked = elim (seat_of asked) [ None ↦ false | Some seat ↦ seat.client_set ]

-- call 69, set-client-version: a client tells it once
abbrev pub set_client_version : Asked → ClientVersion → Definition
set_client_version asked given = with_guards
    (size_guard given.name LONGEST_NAME ∷ size_guard given.version LONGEST_NAME
    ∷ unless (not (has_told asked)) error.CLIENT_IS_CRAZY 0 ∷ [])
    (done_with [] (change.Client asked.session given.name given.version ∷ []))

-- call 70, get-client-name, and call 71, get-client-version: empty where none was told
abbrev pub get_client_name : Asked → ℕ → Definition
get_client_name asked number = with_guards
    (session_guard asked.seats number ∷ [])
    (answer (reply.Text
    (elim (seat_at asked.seats number) [ None ↦ [] | Some seat ↦ seat.client ])))

abbrev pub get_client_version : Asked → ℕ → Definition
get_client_version asked number = with_guards
    (session_guard asked.seats number ∷ [])
    (answer (reply.Text
    (elim (seat_at asked.seats number) [ None ↦ [] | Some seat ↦ seat.version ])))

-- call 82, user-active
abbrev pub user_active : Asked → Definition
user_active asked = without_guard (done_with [] (change.Active asked.session ∷ []))

-- a counter rises, unless by nothing
abbrev pub counts : ℕ → Counter → ℕ → List Effect
counts person counter by = if by == 0 then [] else effect.Counted person counter by ∷ []

-- whoever is logged in is logged out: the time since the login counts as time present
abbrev pub seat_left : Asked → Seat → List Effect
seat_left asked seat =
    if seat.person == 0 then []
    else counts seat.person counter.TimePresent (asked.moment - seat.login)

-- the same of each session of a person
abbrev pub all_left : Asked → ℕ → List Effect
all_left asked person =
    flat_map (seat_left asked) (filter (λ seat. seat.person == person) asked.seats)

abbrev pub leaving_effects : Asked → List Effect
leaving_effects asked = elim (seat_of asked) [ None ↦ [] | Some seat ↦ seat_left asked seat ]

abbrev pub seat_leaves : Seat → List SessionChange
seat_leaves seat = if seat.person == 0 then [] else change.Person seat.number 0 false ∷ []

abbrev pub leaving_changes : Asked → List SessionChange
leaving_changes asked =
    if (caller asked).person == 0 then [] else change.Person asked.session 0 false ∷ []

-- call 1, logout
abbrev pub logout : Asked → Definition
logout asked = without_guard (done_with (leaving_effects asked) (leaving_changes asked))

-- the user name of the caller's greeting
abbrev pub user_of : Asked → List ℕ
user_of asked = elim (seat_of asked) [ None ↦ [] | Some seat ↦ seat.user ]

-- call 62, login: whoever is logged in is logged out first
abbrev pub login : Asked → ℕ → List ℕ → Bool → Definition
login asked person password invisible = with_guards
    (person_guard asked.db person ∷ password_guard asked.db (caller asked) person password ∷ [])
    (done_with
    (leaving_effects asked ++ effect.LoggedIn person asked.moment (user_of asked) ∷ [])
    (leaving_changes asked ++ change.Person asked.session person invisible ∷ []))

-- a session gets the message
abbrev pub is_sent : Asked → ℕ → List ℕ → Bool
is_sent asked recipient text = not (length (delivered_to asked.db asked.seats
    (send_message asked.db recipient (caller asked).person text)) == 0)

-- call 53, send-message: somebody gets it
abbrev pub send_message_to : Asked → ℕ → List ℕ → Definition
send_message_to asked recipient text = with_guards
    (login_guard (caller asked) ∷ size_guard text LONGEST_MESSAGE
    ∷ conference_or_none_guard asked.db (caller asked) recipient
    ∷ unless (is_sent asked recipient text) error.MESSAGE_NOT_SENT recipient ∷ [])
    (done_with [] [])

-- the session that a number means: the caller's own with 0
abbrev pub session_meant : Asked → ℕ → ℕ
session_meant asked number = if number == 0 then asked.session else number

-- the caller may end its own session, and one of a person that it supervises; a strong one all
abbrev pub may_disconnect : Asked → ℕ → Bool
may_disconnect asked session = session == asked.session || (caller asked).strong
    || elim (seat_at asked.seats session) [
      | None ↦ false
      | Some seat ↦ not (seat.person == 0) && supervises asked.db (caller asked).person seat.person
    ]

-- whoever is logged in at a session is logged out, and it ends
abbrev pub end_session : Asked → Seat → Decision
end_session asked seat =
    done_with (seat_left asked seat) (seat_leaves seat ++ change.Ended seat.number ∷ [])

-- call 55, disconnect: whoever is logged in is logged out, and the session makes no call any more
abbrev pub disconnect : Asked → ℕ → Definition
disconnect asked number = let session = session_meant asked number in with_guards
    (session_guard asked.seats session
    ∷ unless (may_disconnect asked session) error.PERMISSION_DENIED session ∷ [])
    (elim (seat_at asked.seats session)
    [ None ↦ done_with [] [] | Some seat ↦ end_session asked seat ])

-- for how many seconds a person has done nothing
abbrev pub idle_of : ℕ → Seat → ℕ
idle_of moment seat = moment - seat.active

-- a session is invisible if somebody is logged in so
abbrev pub is_invisible : Seat → Bool
is_invisible seat = not (seat.person == 0) && is_on 128 seat.flags

-- a session is asked for: by whether it is invisible, and by how long it was idle; one that a call
-- has ended is not
abbrev pub is_asked_for : ℕ → Bool → Bool → ℕ → Seat → Bool
is_asked_for moment visible invisible most seat =
    not seat.ended && (if is_invisible seat then invisible else visible)
    && (most == 0 || nat_le (idle_of moment seat) most)

-- a session as the caller is told of it
abbrev pub dynamic_of : Asked → Seat → DynamicSession
dynamic_of asked seat = record {
  session = seat.number;
  person = seat.person;
  working = working_shown asked.db (caller asked) seat;
  idle = min (idle_of asked.moment seat) last_count;
  flags = seat.flags;
  doing = seat.doing;
}

-- call 83, who-is-on-dynamic: the sessions that are asked for, of which no call has ended one, and
-- those alone that were idle for at most so many seconds, unless that is 0
abbrev pub who_is_on_dynamic : Asked → Bool → Bool → ℕ → Definition
who_is_on_dynamic asked visible invisible most = without_guard (answer (reply.DynamicSessions
    (map (dynamic_of asked)
    (filter (is_asked_for asked.moment visible invisible most) asked.seats))))

-- what does not change of a session
abbrev pub static_of : Seat → StaticSession
static_of seat = record {
  user = seat.user;
  host = seat.host;
  ident_user = [];
  connected = seat.connected;
}

-- call 84, get-static-session-info: this server asks no other one who its client is
abbrev pub get_static_session_info : Asked → ℕ → Definition
get_static_session_info asked number = with_guards
    (session_guard asked.seats number ∷ [])
    (elim (seat_at asked.seats number) [
      | None ↦ done_with [] []
      | Some seat ↦ answer (reply.StaticSession (static_of seat))
    ])
