-- To whom a message goes: to the sessions in which somebody was logged in before the entry, and
-- which accepted its number then. (Protocol A, "Asynchronous Messages".)
use Rattle.std.specs.Prelude.{ℕ, ◌^◌, Bool, ◌==◌, ◌||◌, not, List, Option, None}
use Rattle.std.specs.Prelude.{option_map, if◌then◌else◌}
use Rattle.std.specs.List.{filter_map}
use Rattle.kom_types.specs.Bits.{is_on}
use Rattle.kom_types.specs.declared.items.Item.{Item}
use Rattle.kom_types.specs.declared.items.Item.TheVariants as item
use Rattle.kom_types.specs.declared.messages.Message.{Message}
use Rattle.kom_types.specs.declared.seats.Seat.{Seat}
use Rattle.kom_model.specs.declared.viewers.Viewer.{Viewer}
use Rattle.kom_model.specs.Db.{Db}
use Rattle.kom_model.specs.Viewers.{viewer_of}

-- an item for a session
pub record Delivery : Type 0 where
  pub session : ℕ
  pub item : Item

-- a message by its number, and what it tells who looks: nothing to one who may not see it
pub record Sending : Type 0 where
  pub number : ℕ
  pub told : Viewer → Option Message

-- a session accepts the messages of a number
abbrev pub accepts : ℕ → Seat → Bool
accepts number seat = is_on (2 ^ number) seat.accepted

-- what a message brings to a session
abbrev pub delivery_to : Db → Sending → Seat → Option Delivery
delivery_to db sending seat =
    if seat.person == 0 || not (accepts sending.number seat) then None
    else option_map
    (λ message. record { session = seat.number; item = item.Message message })
    (sending.told (viewer_of db seat))

-- what it brings to each session, by rising number
abbrev pub delivered_to : Db → List Seat → Sending → List Delivery
delivered_to db seats sending = filter_map (delivery_to db sending) seats
