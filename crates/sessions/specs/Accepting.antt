-- The sessions that accept each message, in lists of their numbers.
use Rattle.std.specs.Prelude.{◌≡◌, ℕ, ◌+◌, ◌^◌, ◌<◌, ◌≤◌, Bool, true, false, nat_eq, nat_lt}
use Rattle.std.specs.Prelude.{List, []}
use Rattle.std.specs.Prelude.{◌∷◌, length, map, filter, position, unwrap_or, if◌then◌else◌, IsTrue}
use Rattle.std.specs.Set.{remove_key, is_member}
use Rattle.kom_types.specs.Bits.{is_on}
use Rattle.kom_types.specs.Sessions.{Session}
use Rattle.row_slots.specs.declared.lists.Lists.{Lists}
use Rattle.row_slots.specs.Lists.{list_of, room_of}

-- whether a session accepts a message
abbrev pub accepts : ℕ → Session → Bool
accepts message row = is_on (2 ^ message) row.seat.accepted

-- the numbers of the sessions that accept a message
abbrev pub acceptors : ℕ → List Session → List ℕ
acceptors message rows = map (λ row. row.seat.number) (filter (accepts message) rows)

-- each list may hold so many sessions without memory
abbrev pub HasRoom : Lists → ℕ → Type 0
HasRoom lists count = (message : ℕ) → message < 32
    → count ≤ length (list_of lists message) + room_of lists message

-- the lists are those of the rows, and each may hold all sessions
pub record IsAccepting (lists : Lists) (rows : List Session) : Type 0 where
  pub numbers : (message : ℕ) → message < 32 → list_of lists message ≡ acceptors message rows
  pub room : HasRoom lists (length rows)

-- the place of a number among rising ones: before the first that is greater
abbrev pub place_among : ℕ → List ℕ → ℕ
place_among number list = unwrap_or (position (nat_lt number) list) (length list)

-- with a number in its place among rising ones
abbrev pub insert_number : ℕ → List ℕ → List ℕ
insert_number number [] = number ∷ []
insert_number number (other ∷ others) =
    if nat_lt number other then number ∷ other ∷ others else other ∷ insert_number number others

-- the numbers of sessions, when one of them that was among them, or was not, is among them now, or
-- is not
abbrev pub after_move : ℕ → Bool → Bool → List ℕ → List ℕ
after_move session true true list = list
after_move session true false list = remove_key (nat_eq session) list
after_move session false true list = insert_number session list
after_move session false false list = list

-- what is to hold before such a move: a session that goes is in the list, and for one that comes
-- there is room
abbrev pub MayMove : Lists → ℕ → ℕ → Bool → Bool → Type 0
MayMove lists session message true true = Unit {0}
MayMove lists session message true false =
    IsTrue (is_member nat_eq (list_of lists message) session)
MayMove lists session message false true = 0 < room_of lists message
MayMove lists session message false false = Unit {0}
