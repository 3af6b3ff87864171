-- What a session is to be sent, and what its drains give.
use Rattle.std.specs.Prelude.{ℕ, ◌==◌, List, [], ◌∷◌, ◌++◌, length, map, take, drop, Option, Some}
use Rattle.std.specs.Prelude.{None, if◌then◌else◌}
use Rattle.kom_types.specs.declared.acts.Act.{Act}
use Rattle.kom_types.specs.declared.acts.Act.TheVariants as act
use Rattle.kom_types.specs.declared.acts.Record.{Record}
use Rattle.kom_types.specs.declared.items.Item.{Item}
use Rattle.kom_types.specs.Sessions.{Waiting, Session, drained_count}
use Rattle.kom_model.specs.State.{State, session_of}
use Rattle.kom_model.specs.Refusal.{refusal_of}
use Rattle.kom_model.specs.After.{after_act, after_sending, after}

-- the items that wait, in order
abbrev pub items_of : List Waiting → List Item
items_of waiting = map (λ one. one.item) waiting

-- what waits in a row, if there is one
abbrev pub waiting_in : Option Session → List Waiting
waiting_in None = []
waiting_in (Some session) = session.waiting

-- what waits for a session
abbrev pub waiting_for : ℕ → State → List Waiting
waiting_for number state = waiting_in (session_of number state)

-- what a record queues for a session: what waits after its items were queued, beyond what waited
-- before
abbrev pub queued_for : ℕ → State → Record → List Item
queued_for number state made =
    items_of (drop (length (waiting_for number (after_act state made)))
    (waiting_for number (after_sending state made)))

-- what is queued for a session along a history
abbrev pub queued_along : State → ℕ → List Record → List Item
queued_along state number [] = []
queued_along state number (made ∷ history) =
    queued_for number state made ++ queued_along (after state made) number history

-- What a session is to be sent: what waits for it, and then all that is queued for it along a
-- history, in order.
abbrev pub out_of : State → ℕ → List Record → List Item
out_of state number history =
    items_of (waiting_for number state) ++ queued_along state number history

-- what a drain of the session takes
abbrev pub drained_from : ℕ → State → List Waiting
drained_from number state =
    take (drained_count state.stable (waiting_for number state)) (waiting_for number state)

-- the items that a drain of the session gives
abbrev pub given_from : ℕ → State → List Item
given_from number state = items_of (drained_from number state)

-- the items that an act takes: those that a drain gives its session, which are none where it is
-- refused
abbrev pub taken_by : State → Act → List Item
taken_by state (act.Connect user host) = []
taken_by state (act.Call session reference call) = []
taken_by state (act.Broken session) = []
taken_by state (act.Drain session) = elim (refusal_of state (act.Drain session)) [
  | None ↦ given_from session state
  | Some refusal ↦ []
]
taken_by state act.Flush = []
taken_by state (act.Close session) = []

-- what one record gives to the session, as a list of lists
abbrev pub given_by : State → ℕ → Record → List (List Item)
given_by state number made = elim made.entry.act [
  | act.Connect user host ↦ []
  | act.Call session reference call ↦ []
  | act.Broken session ↦ []
  | act.Drain session ↦ if session == number then given_from session state ∷ [] else []
  | act.Flush ↦ []
  | act.Close session ↦ []
]

-- What the drains of a session give along a history, a list for each.
abbrev pub given_along : State → ℕ → List Record → List (List Item)
given_along state number [] = []
given_along state number (made ∷ history) =
    given_by state number made ++ given_along (after state made) number history

-- What the drains that this pass made of a session give along a history, a list for each.
abbrev pub given_by_pass : State → ℕ → ℕ → List Record → List (List Item)
given_by_pass state pass number [] = []
given_by_pass state pass number (made ∷ history) =
    (if made.entry.pass == pass then given_by state number made else [])
    ++ given_by_pass (after state made) pass number history
