-- What the messages of a call bring to a session of a group is the same without what is hidden from
-- the group.
use Rattle.std.specs.Prelude.{◌≡◌, List}
use Rattle.std.specs.List.{filter_map}
use Rattle.kom_types.specs.declared.calls.Call.{Call}
use Rattle.kom_types.specs.declared.decisions.Decision.{Decision}
use Rattle.kom_types.specs.declared.seats.Seat.{Seat}
use Rattle.kom_model.specs.Db.{Db}
use Rattle.kom_model.specs.Decide.{decision_of}
use Rattle.kom_model.specs.Effects.{IsProtected}
use Rattle.kom_model.specs.Sending.{Delivery, Sending, delivery_to}
use Rattle.kom_model.specs.ToWhom.{sendings}
use Rattle.kom_model.specs.Viewers.{viewer_of}
use Rattle.kom_model.specs.Whole.{IsWhole}
use Rattle.kom_model.specs.calls.Call.{Asked}
use Rattle.kom_model.specs.calls.Guards.{caller}
use Rattle.kom_laws.specs.Groups.{Group, IsOfGroup}
use Rattle.kom_laws.specs.Erasing.{erased_db}
use Rattle.noninterference.specs.outputs.Answers.{erased_asked}

-- what messages bring to one session, in order
abbrev pub brought_to : Db → Seat → List Sending → List Delivery
brought_to db seat sendings = filter_map (λ sending. delivery_to db sending seat) sendings

-- The messages of a call, by anybody, that came to the same bring the same to a session in which
-- nobody, or a person of the group, is logged in, and which is not strong. So do those of a call of
-- the group, which comes to the same.
pub record MessagesStandErased : Type 0 where
  pub brought : (group : Group) (asked : Asked) (call : Call) (decision : Decision) (seat : Seat)
      → IsProtected asked.db → IsWhole asked.db → IsOfGroup group (viewer_of asked.db seat)
      → brought_to (erased_db group asked.db) seat
      (sendings (erased_asked group asked) call decision)
      ≡ brought_to asked.db seat (sendings asked call decision)
  pub called : (group : Group) (asked : Asked) (call : Call) (seat : Seat)
      → IsProtected asked.db → IsWhole asked.db → IsOfGroup group (caller asked)
      → IsOfGroup group (viewer_of asked.db seat)
      → brought_to (erased_db group asked.db) seat (sendings (erased_asked group asked) call
      (decision_of (erased_asked group asked) call))
      ≡ brought_to asked.db seat (sendings asked call (decision_of asked call))
