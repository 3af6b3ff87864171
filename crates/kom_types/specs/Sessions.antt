-- A session: its seat, which is all that a call may read of it, and what waits for it.
use Rattle.std.specs.Prelude.{ℕ, ◌+◌, Bool, true, false, ◌==◌, ◌&&◌, nat_le, nat_lt, List, [], ◌∷◌}
use Rattle.std.specs.Prelude.{◌++◌, length, take, drop, take_while, bit_and, bit_or, if◌then◌else◌}
use Rattle.kom_types.specs.declared.limits.TheConstants.{MOST_WAITING_BYTES, MOST_WAITING_ITEMS}
use Rattle.kom_types.specs.declared.items.Item.{Item}
use Rattle.kom_types.specs.declared.seats.Seat.{Seat}
use Rattle.kom_types.specs.declared.session_changes.SessionChange.{SessionChange}
use Rattle.kom_types.specs.declared.session_changes.SessionChange.TheVariants as change
use Rattle.kom_types.specs.Printing.{print_of}

-- an item that waits for a session, and the place in the history of the entry that queued it
pub record Waiting : Type 0 where
  pub item : Item
  pub entry : ℕ

-- A session: its seat, the items that wait for it, and whether more would have waited than may.
pub record Session : Type 0 where
  pub seat : Seat
  pub waiting : List Waiting
  pub overrun : Bool

-- The session that a Connect makes: nobody is logged in, and no message is accepted. That a session
-- accepts none until its client asks for some is this server's choice.
abbrev pub fresh_seat : ℕ → ℕ → List ℕ → List ℕ → ℕ → Seat
fresh_seat number pass user host moment = record {
  number = number;
  pass = pass;
  user = user;
  host = host;
  connected = moment;
  login = 0;
  active = moment;
  person = 0;
  level = 0;
  working = 0;
  doing = [];
  client_set = false;
  client = [];
  version = [];
  accepted = 0;
  flags = 0;
  ended = false;
}

abbrev pub fresh_session : ℕ → ℕ → List ℕ → List ℕ → ℕ → Session
fresh_session number pass user host moment =
    record { seat = fresh_seat number pass user host moment; waiting = []; overrun = false }

-- whether this is the session of the number
abbrev pub is_session : ℕ → Session → Bool
is_session number session = session.seat.number == number

-- the most items that wait for a session, and the most bytes that they print to
pub record Limits : Type 0 where
  pub items : ℕ
  pub bytes : ℕ

abbrev pub waiting_limits : Limits
waiting_limits = record { items = MOST_WAITING_ITEMS; bytes = MOST_WAITING_BYTES }

-- how many bytes the items print to that wait
abbrev pub printed_bytes : List Waiting → ℕ
printed_bytes [] = 0
printed_bytes (one ∷ waiting) = length (print_of one.item) + printed_bytes waiting

-- an item still fits after those that wait
abbrev pub fits : Limits → List Waiting → Item → Bool
fits limits waiting item =
    nat_lt (length waiting) limits.items
    && nat_le (printed_bytes waiting + length (print_of item)) limits.bytes

-- with this item after those that wait
abbrev pub with_waiting : Item → ℕ → Session → Session
with_waiting item entry session =
    record session { waiting = session.waiting ++ record { item = item; entry = entry } ∷ [] }

-- An item is queued by the entry at this place, unless the session is overrun; one that no longer
-- fits makes it so.
abbrev pub queue : Limits → ℕ → Item → Session → Session
queue limits entry item session =
    if session.overrun then session
    else if fits limits session.waiting item then with_waiting item entry session
    else record session { overrun = true }

-- how many items a drain takes at most
abbrev pub most_drained : ℕ
most_drained = 64

-- how many items a drain takes: the first, 64 at most, whose entries stand below the stable number
abbrev pub drained_count : ℕ → List Waiting → ℕ
drained_count stable waiting =
    length (take most_drained (take_while (λ one. nat_lt one.entry stable) waiting))

-- what a drain leaves
abbrev pub after_drain : ℕ → Session → Session
after_drain stable session =
    record session { waiting = drop (drained_count stable session.waiting) session.waiting }

-- with the flag invisible, the highest, on or off
abbrev pub with_invisible : Bool → ℕ → ℕ
with_invisible invisible flags = bit_or (bit_and flags 127) (if invisible then 128 else 0)

-- with the flag user-active-used on and the flag user-absent off
abbrev pub with_active : ℕ → ℕ
with_active flags = bit_or (bit_and flags 159) 64

-- the session whose number stands first in a change; a stop is of none
abbrev pub changed_session : SessionChange → ℕ
changed_session (change.Person session person invisible) = session
changed_session (change.Level session level) = session
changed_session (change.Working session conference) = session
changed_session (change.Doing session doing) = session
changed_session (change.Client session client version) = session
changed_session (change.Accept session accepted) = session
changed_session (change.Active session) = session
changed_session (change.Ended session) = session
changed_session change.Stop = 0

-- whether a change shuts the server down, and is of no session
abbrev pub is_stop : SessionChange → Bool
is_stop (change.Person session person invisible) = false
is_stop (change.Level session level) = false
is_stop (change.Working session conference) = false
is_stop (change.Doing session doing) = false
is_stop (change.Client session client version) = false
is_stop (change.Accept session accepted) = false
is_stop (change.Active session) = false
is_stop (change.Ended session) = false
is_stop change.Stop = true

-- a person logs in: level and conference are 0, and the person is active; or whoever is logged in
-- is logged out
abbrev pub with_person : ℕ → Bool → ℕ → Seat → Seat
with_person person invisible moment seat =
    let seated = record seat {
      person = person;
      level = 0;
      working = 0;
      flags = with_invisible invisible seat.flags;
    } in
    if person == 0 then seated else record seated { login = moment; active = moment }

-- What a change makes of the seat of its session, at this moment.
abbrev pub changed_seat : SessionChange → ℕ → Seat → Seat
changed_seat (change.Person session person invisible) moment seat =
    with_person person invisible moment seat
changed_seat (change.Level session level) moment seat = record seat { level = level }
changed_seat (change.Working session conference) moment seat = record seat { working = conference }
changed_seat (change.Doing session doing) moment seat = record seat { doing = doing }
changed_seat (change.Client session client version) moment seat =
    record seat { client_set = true; client = client; version = version }
changed_seat (change.Accept session accepted) moment seat = record seat { accepted = accepted }
changed_seat (change.Active session) moment seat =
    record seat { active = moment; flags = with_active seat.flags }
changed_seat (change.Ended session) moment seat = record seat { ended = true }
changed_seat change.Stop moment seat = seat

abbrev pub after_change : SessionChange → ℕ → Session → Session
after_change what moment session = record session { seat = changed_seat what moment session.seat }
