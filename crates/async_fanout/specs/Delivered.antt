-- What a message brings to a session that accepts it.
use Rattle.std.specs.Prelude.{◌==◌, List, [], ◌∷◌, Option, Some, None, if◌then◌else◌}
use Rattle.std.specs.List.{flat_map}
use Rattle.kom_types.specs.declared.items.Item.TheVariants as item
use Rattle.kom_types.specs.declared.seats.Seat.{Seat}
use Rattle.kom_model.specs.calls.Call.{Asked}
use Rattle.kom_model.specs.Db.{Db}
use Rattle.kom_model.specs.Sending.{Delivery, Sending, delivered_to}
use Rattle.kom_model.specs.Viewers.{viewer_of}

-- what may be there, as a list
abbrev pub as_list : {A : Type 0} → Option A → List A
as_list found = elim found [ None ↦ [] | Some one ↦ one ∷ [] ]

-- what is sent of a row that may be there
abbrev pub of_row : {A : Type 0} → (A → Sending) → Option A → List Sending
of_row send found = elim found [ None ↦ [] | Some row ↦ send row ∷ [] ]

-- what a message brings to a session that accepts it: nothing to one in which nobody is logged in
abbrev pub brings : Db → Sending → Seat → List Delivery
brings db sending seat = if seat.person == 0 then [] else elim (sending.told (viewer_of db seat)) [
  | None ↦ []
  | Some message ↦ record { session = seat.number; item = item.Message message } ∷ []
]

-- what messages bring, message by message
abbrev pub all_brought : Asked → List Sending → List Delivery
all_brought asked sendings = flat_map (delivered_to asked.db asked.seats) sendings
