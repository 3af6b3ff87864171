-- What loops over the lists of all messages leave of them.
use Rattle.std.proofs.Common.{◌≡◌, ℕ, ◌+◌, ◌^◌, ◌<◌, ◌≤◌, Bool, true, false, length, arith}
use Rattle.kom_types.specs.Bits.{is_on}
use Rattle.row_slots.specs.declared.lists.Lists.{Lists}
use Rattle.row_slots.specs.Lists.{list_of, room_of}
use Rattle.sessions.specs.Accepting.{HasRoom, after_move, MayMove}

-- room was made in the lists below a number
pub record Reserved (old new : Lists) (count next : ℕ) : Type 0 where
  pub lists : (message : ℕ) → list_of new message ≡ list_of old message
  pub rooms : (message : ℕ) → room_of old message ≤ room_of new message
  pub done : (message : ℕ) → message < next → count ≤ length (list_of new message) + room_of new message

-- the lists below a number were changed
pub record Changed (old new : Lists) (session was is next : ℕ) : Type 0 where
  pub done : (message : ℕ) → message < next →
      list_of new message ≡ after_move session (is_on (2 ^ message) was) (is_on (2 ^ message) is) (list_of old message)
  pub left : (message : ℕ) → next ≤ message → list_of new message ≡ list_of old message
  pub left_rooms : (message : ℕ) → next ≤ message → room_of new message ≡ room_of old message
  pub rooms : (message : ℕ) →
      length (list_of old message) + room_of old message ≤ length (list_of new message) + room_of new message

pub may-move-still : (old new : Lists) (session message : ℕ) (was is : Bool) →
    list_of new message ≡ list_of old message → room_of new message ≡ room_of old message →
    MayMove old session message was is → MayMove new session message was is
may-move-still old new session message true true list room may = tt
may-move-still old new session message true false list room may = rw list may
may-move-still old new session message false true list room may = rw room may
may-move-still old new session message false false list room may = tt

pub has-room-still : (old new : Lists) → ((message : ℕ) →
    length (list_of old message) + room_of old message ≤ length (list_of new message) + room_of new message) →
    (count : ℕ) → HasRoom old count → HasRoom new count
has-room-still old new rooms count has message below =
    let had : count ≤ length (list_of old message) + room_of old message = has message below in
    let more = rooms message in
    omega arith
