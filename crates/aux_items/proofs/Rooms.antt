-- The rooms of the lists of texts and of conferences.
use Rattle.std.proofs.Common.{◌≡◌, ℕ, ◌+◌, ◌≤◌, Bool, true, false, cond, Result, Ok, Err, OnOk, arith}
use Rattle.row_slots.specs.Lists.{room_in}
use Rattle.row_slots.proofs.Rooms.{room_in-rooms_of}
use Rattle.aux_items.specs.declared.objects.ObjectLists.{ObjectLists}
use Rattle.aux_items.specs.Objects.{room_at, rooms_at, is_same}

-- the room of the list of a text, or a conference, by the rooms of all lists
abbrev pub room_among : ObjectLists → Bool → ℕ → ℕ
room_among lists on_text object = room_in (cond on_text (rooms_at lists true) (rooms_at lists false)) object

pub room_among-is : (lists : ObjectLists) (on_text : Bool) (object : ℕ) →
    room_among lists on_text object ≡ room_at lists on_text object
room_among-is lists true object = room_in-rooms_of lists.texts object
room_among-is lists false object = room_in-rooms_of lists.conferences object

pub rooms_stay : (old new : ObjectLists) →
    ((kind : Bool) (other : ℕ) → room_at old kind other ≤ room_at new kind other) →
    (kind : Bool) (other : ℕ) → room_among old kind other ≤ room_among new kind other
rooms_stay old new stay kind other =
    omega (arith, room_among-is old kind other, room_among-is new kind other, stay kind other)

pub rooms_used : (old new : ObjectLists) (on_text : Bool) (object : ℕ) →
    ((kind : Bool) (other : ℕ) →
    room_at old kind other ≤ room_at new kind other + cond (is_same on_text object kind other) 1 0) →
    (kind : Bool) (other : ℕ) →
    room_among old kind other ≤ room_among new kind other + cond (is_same on_text object kind other) 1 0
rooms_used old new on_text object used kind other =
    omega (arith, room_among-is old kind other, room_among-is new kind other, used kind other)

pub on_ok : {T E P Q : Type 0} (result : Result T E) → (P → Q) → OnOk result P → OnOk result Q
on_ok (Ok done) leads holds = leads holds
on_ok (Err error) leads holds = tt
