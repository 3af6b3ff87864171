-- The rooms of the lists of both kinds.
use Rattle.std.proofs.Common.{◌≡◌, ℕ, ◌+◌, ◌≤◌, ◌<◌, Bool, true, false, cond, Result, Ok, Err, IsOk, OnErr, inl, inr}
use Rattle.std.proofs.Common.{arith}
use Rattle.std.proofs.lemmas.Bool.{cases_lt, false≢true}
use Rattle.row_slots.specs.Lists.{room_in}
use Rattle.row_slots.proofs.Rooms.{room_in-rooms_of}
use Rattle.misc_links.specs.declared.kinds.KindLists.{KindLists}
use Rattle.misc_links.specs.Kinds.{room_at, rooms_at, is_same}

-- the room of the list of a text, by the rooms of all lists
abbrev pub room_among : KindLists → ℕ → Bool → ℕ
room_among lists text footnote = room_in (cond footnote (rooms_at lists true) (rooms_at lists false)) text

pub room_among-is : (lists : KindLists) (text : ℕ) (footnote : Bool) →
    room_among lists text footnote ≡ room_at lists text footnote
room_among-is lists text true = room_in-rooms_of lists.footnotes text
room_among-is lists text false = room_in-rooms_of lists.comments text

pub rooms_stay : (old new : KindLists) → ((text : ℕ) (kind : Bool) → room_at old text kind ≤ room_at new text kind) →
    (text : ℕ) (kind : Bool) → room_among old text kind ≤ room_among new text kind
rooms_stay old new stay text kind =
    omega (arith, room_among-is old text kind, room_among-is new text kind, stay text kind)

pub rooms_used : (old new : KindLists) (child : ℕ) (footnote : Bool) →
    ((text : ℕ) (kind : Bool) →
    room_at old text kind ≤ room_at new text kind + cond (is_same child footnote text kind) 1 0) →
    (text : ℕ) (kind : Bool) →
    room_among old text kind ≤ room_among new text kind + cond (is_same child footnote text kind) 1 0
rooms_used old new child footnote used text kind =
    omega (arith, room_among-is old text kind, room_among-is new text kind, used text kind)

-- where so many would fit, there is no error
pub no_room : {T E : Type 0} (result : Result T E) (additional room : ℕ) → (additional ≤ room → IsOk result) →
    OnErr result (room < additional)
no_room (Ok done) additional room succeeds = tt
no_room (Err error) additional room succeeds = elim (cases_lt room additional) [
  | inl less ↦ less
  | inr fits ↦ absurd (false≢true (succeeds fits))
]

pub on_err : {T E P : Type 0} (result : Result T E) → P → OnErr result P
on_err (Ok done) holds = tt
on_err (Err error) holds = holds
