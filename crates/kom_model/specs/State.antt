-- What the server is, as plain rows.
use Rattle.std.specs.Prelude.{ℕ, ◌≤◌, ◌<◌, Bool, false, ◌==◌, ◌||◌, nat_eq, List, [], ◌∷◌, length}
use Rattle.std.specs.Prelude.{map, find, Option, is_some, IsTrue}
use Rattle.std.specs.List.{AllByRecursion, IsDistinct}
use Rattle.kom_types.specs.declared.limits.TheConstants.{LONGEST_USER_NAME}
use Rattle.kom_types.specs.declared.seats.Seat.{Seat}
use Rattle.kom_types.specs.Sessions.{Waiting, Session, is_session}
use Rattle.kom_model.specs.Db.{Db, empty_db, person_of}
use Rattle.kom_model.specs.Effects.{IsProtected}
use Rattle.kom_model.specs.Whole.{IsWhole}

-- The server: its stored rows; its sessions; how many were connected; the stable number; how many
-- entries its history has, and the moment of the last one; whether it was shut down; and whether
-- its store refused a flush.
pub record State : Type 0 where
  pub db : Db
  pub sessions : List Session
  pub connects : ℕ
  pub stable : ℕ
  pub entries : ℕ
  pub moment : ℕ
  pub stopped : Bool
  pub store_refused : Bool

-- before the first entry, with these stored rows
abbrev pub opening_state : Db → State
opening_state db = record {
  db = db;
  sessions = [];
  connects = 0;
  stable = 0;
  entries = 0;
  moment = 0;
  stopped = false;
  store_refused = false;
}

-- the same without a row
abbrev pub empty : State
empty = opening_state empty_db

-- the session of a number
abbrev pub session_of : ℕ → State → Option Session
session_of number state = find (is_session number) state.sessions

-- all that a call may read of the sessions
abbrev pub seats_of : State → List Seat
seats_of state = map (λ session. session.seat) state.sessions

-- the places of the entries that queued what waits never fall, from this one on
abbrev pub NeverFalls : ℕ → List Waiting → Type 0
NeverFalls place [] = Unit {0}
NeverFalls place (one ∷ waiting) = (place ≤ one.entry) × NeverFalls one.entry waiting

-- what waits was queued in the order of the history, by entries that it has
abbrev pub IsInOrder : ℕ → List Waiting → Type 0
IsInOrder entries waiting =
    NeverFalls 0 waiting × AllByRecursion (λ one. one.entry < entries) waiting

-- who is logged in at a seat is there, and the user's name is not too long
pub record IsSeated (db : Db) (seat : Seat) : Type 0 where
  pub person : IsTrue (seat.person == 0 || is_some (person_of db seat.person))
  pub user : length seat.user ≤ LONGEST_USER_NAME

-- the same of each of these seats
abbrev pub AreSeated : Db → List Seat → Type 0
AreSeated db seats = AllByRecursion (IsSeated db) seats

-- Each session has a number of its own, which a Connect drew; what waits for it is in order; who is
-- logged in at it is there, and its user's name is not too long; what is stable is in the history;
-- each secret conference is read-protected; and the stored rows are whole.
pub record IsSound (state : State) : Type 0 where
  pub drawn : AllByRecursion (λ session. session.seat.number ≤ state.connects) state.sessions
  pub distinct : IsDistinct nat_eq (map (λ session. session.seat.number) state.sessions)
  pub ordered : AllByRecursion (λ session. IsInOrder state.entries session.waiting) state.sessions
  pub seated : AreSeated state.db (seats_of state)
  pub stable : state.stable ≤ state.entries
  pub protected : IsProtected state.db
  pub whole : IsWhole state.db
