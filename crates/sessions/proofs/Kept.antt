-- The lists of accepting sessions stay those of the rows, when a session comes, changes or goes.
use Rattle.std.proofs.Common.{◌≡◌, ℕ, ◌+◌, ◌^◌, ◌<◌, ◌≤◌, Bool, true, false, cond, not, List, [], ◌∷◌, ◌++◌, length}
use Rattle.std.proofs.Common.{map}
use Rattle.std.proofs.Common.{Option, Some, None, refl, sym, ap, ◌∙◌, arith}
use Rattle.std.specs.Prelude.{◌==◌}
use Rattle.std.specs.Int.Bits.{bit_and, and_zero_l}
use Rattle.std.specs.List.{find, filter, slice_get}
use Rattle.std.specs.Option.{option_map}
use Rattle.std.proofs.lemmas.List.{length_push, length-map}
use Rattle.std.proofs.lemmas.Option.{slice_get-map}
use Rattle.kom_types.specs.declared.seats.Seat.{Seat}
use Rattle.kom_types.specs.Bits.{is_on}
use Rattle.kom_types.specs.Sessions.{Session, is_session}
use Rattle.row_slots.specs.declared.lists.Lists.{Lists}
use Rattle.row_slots.specs.Lists.{list_of}
use Rattle.sessions.specs.Accepting.{accepts, acceptors, after_move, HasRoom, IsAccepting}
use Rattle.sessions.specs.Rows.{IsRising, with_row}
use Rattle.sessions.proofs.Accepted.{accepting-push, accepting-changed, accepting-closed, accepting-found}
use Rattle.sessions.proofs.Rising.{KeepsNumbers}
use Rattle.sessions.proofs.Seats.{find-seat}

-- room for fewer
has-room-less : (lists : Lists) (most count : ℕ) → count ≤ most → HasRoom lists most → HasRoom lists count
has-room-less lists most count less has message below = let room = has message below in omega arith

-- who accepts nothing does not accept a message
silent-bit : (message bits : ℕ) → bits ≡ 0 → is_on (2 ^ message) bits ≡ false
silent-bit message bits none =
    let off : bit_and bits (2 ^ message) ≡ 0 = rw none (and_zero_l (2 ^ message)) in ap (λ n. not (n == 0)) off

-- room is made
pub reserved : (old new : Lists) (rows : List Session) →
    ((message : ℕ) → list_of new message ≡ list_of old message) →
    ((count : ℕ) → HasRoom old count → HasRoom new count) → IsAccepting old rows → IsAccepting new rows
reserved old new rows same room are = record {
  numbers = λ message below. same message ∙ are.numbers message below;
  room = room (length rows) are.room;
}

-- a session comes
pub connected : (old new : Lists) (rows : List Session) (row : Session) → row.seat.accepted ≡ 0 →
    ((message : ℕ) → list_of new message ≡ list_of old message) → HasRoom new (length rows + 1) →
    IsAccepting old rows → IsAccepting new (rows ++ row ∷ [])
connected old new rows row silent same room are = record {
  numbers = λ message below. same message ∙ are.numbers message below
      ∙ sym (accepting-push message rows row (silent-bit message row.seat.accepted silent));
  room = rw (length_push rows row) room;
}

within-filter : (keep : Session → Bool) (rows : List Session) → length (filter keep rows) ≤ length rows
within-filter keep [] = omega arith
within-filter keep (row ∷ rows) =
    let rest : length (filter keep rows) ≤ length rows = within-filter keep rows in
    elim (keep row) as (λ b. length (cond b (row ∷ filter keep rows) (filter keep rows)) ≤ length (row ∷ rows)) [
      | true ↦ omega arith
      | false ↦ omega arith
    ]

-- a session goes
pub closed : (old new : Lists) (rows : List Session) (number : ℕ) (row : Session) → IsRising rows →
    find (is_session number) rows ≡ Some row → IsAccepting old rows →
    ((message : ℕ) → message < 32 →
    list_of new message ≡ after_move number (accepts message row) (is_on (2 ^ message) 0) (list_of old message)) →
    ((count : ℕ) → HasRoom old count → HasRoom new count) →
    IsAccepting new (filter (λ row. not (is_session number row)) rows)
closed old new rows number row rising found are lists room = record {
  numbers = λ message below.
      let none : is_on (2 ^ message) 0 ≡ false = silent-bit message 0 refl in
      let gone : list_of new message ≡ after_move number (accepts message row) false (list_of old message) =
      rw none at lists message below in
      gone ∙ ap (after_move number (accepts message row) false) (are.numbers message below)
      ∙ sym (accepting-closed message number rows row (accepts message row) rising found refl);
  room = has-room-less new (length rows) _ (within-filter (λ row. not (is_session number row)) rows)
      (room (length rows) are.room);
}

-- a session changes
pub changed-lists : (old new : Lists) (rows : List Session) (number : ℕ) (change : Session → Session) (row : Session) →
    KeepsNumbers change → IsRising rows → find (is_session number) rows ≡ Some row → IsAccepting old rows →
    ((message : ℕ) → message < 32 →
    list_of new message
    ≡ after_move number (accepts message row) (accepts message (change row)) (list_of old message)) →
    ((count : ℕ) → HasRoom old count → HasRoom new count) → IsAccepting new (with_row number change rows)
changed-lists old new rows number change row keeps rising found are lists room = record {
  numbers = λ message below. lists message below
      ∙ ap (after_move number (accepts message row) (accepts message (change row))) (are.numbers message below)
      ∙ sym (accepting-changed message number change keeps rows row (accepts message row) (accepts message (change row))
      rising found refl refl);
  room = rw (length-map rows (λ row. cond (is_session number row) (change row) row)) (room (length rows) are.room);
}

-- the seats that accept a message
abbrev seat_accepts : ℕ → Seat → Bool
seat_accepts message seat = is_on (2 ^ message) seat.accepted

filter-seats : (message : ℕ) (rows : List Session) →
    filter (seat_accepts message) (map (λ row. row.seat) rows) ≡ map (λ row. row.seat) (filter (accepts message) rows)
filter-seats message [] = refl
filter-seats message (row ∷ rows) =
    let rest : filter (seat_accepts message) (map (λ row. row.seat) rows)
    ≡ map (λ row. row.seat) (filter (accepts message) rows) = filter-seats message rows in
    elim (accepts message row) as (λ b. cond b (row.seat ∷ filter (seat_accepts message) (map (λ row. row.seat) rows))
    (filter (seat_accepts message) (map (λ row. row.seat) rows)) ≡ map (λ row. row.seat)
    (cond b (row ∷ filter (accepts message) rows) (filter (accepts message) rows))) [
      | true ↦ ap (λ list. row.seat ∷ list) rest
      | false ↦ rest
    ]

abbrev nth_seat : ℕ → List Session → ℕ → Option Seat
nth_seat message rows place = slice_get (filter (seat_accepts message) (map (λ row. row.seat) rows)) place

nth-seat : (message : ℕ) (rows : List Session) (place : ℕ) →
    nth_seat message rows place ≡ option_map (λ row. row.seat) (slice_get (filter (accepts message) rows) place)
nth-seat message rows place =
    ap (λ list. slice_get list place) (filter-seats message rows)
    ∙ slice_get-map (λ row. row.seat) (filter (accepts message) rows) place

-- the seat at a place among those that accept a message is that of the session whose number stands there
pub nth-there : (message : ℕ) (rows : List Session) (place number : ℕ) → IsRising rows →
    Some number ≡ slice_get (acceptors message rows) place →
    find (λ seat. seat.number == number) (map (λ row. row.seat) rows) ≡ nth_seat message rows place
nth-there message rows place number rising at =
    find-seat number rows
    ∙ ap (option_map (λ row. row.seat)) (accepting-found message rows place number rising (sym at))
    ∙ sym (nth-seat message rows place)

no-row : (got : Option Session) → option_map (λ row. row.seat.number) got ≡ None → got ≡ None
no-row None none = refl
no-row (Some row) none = cc

pub nth-absent : (message : ℕ) (rows : List Session) (place : ℕ) →
    None ≡ slice_get (acceptors message rows) place → nth_seat message rows place ≡ None
nth-absent message rows place none =
    let mapped = slice_get-map (λ row. row.seat.number) (filter (accepts message) rows) place in
    let gone = no-row (slice_get (filter (accepts message) rows) place) (sym mapped ∙ sym none) in
    nth-seat message rows place ∙ ap (option_map (λ row. row.seat)) gone
