-- Calls of which nothing is left for a group.
use Rattle.std.specs.Prelude.{◌≡◌, ℕ, ◌+◌, not, max, [], IsTrue}
use Rattle.std.specs.List.{list_all}
use Rattle.kom_types.specs.declared.calls.Call.{Call}
use Rattle.kom_types.specs.declared.seats.Seat.{Seat}
use Rattle.kom_model.specs.After.{decision_at, moment_of, after}
use Rattle.kom_model.specs.Decide.{asked_in}
use Rattle.kom_model.specs.Effects.{apply_all}
use Rattle.kom_model.specs.Kinds.{is_among}
use Rattle.kom_model.specs.State.{State, IsSound}
use Rattle.kom_model.specs.ToWhom.{sendings}
use Rattle.kom_model.specs.Viewers.{viewer_of}
use Rattle.kom_laws.specs.Erasing.{erase, mask_of}
use Rattle.kom_laws.specs.Groups.{Group, IsOfGroup}
use Rattle.noninterference.specs.outputs.Brought.{brought_to}
use Rattle.noninterference.specs.steps.Calls.{record_of_call}
use Rattle.noninterference.specs.steps.Same.{AreOfGroup}
use Rattle.noninterference.specs.steps.Steps.{HasNoOpening}
use Rattle.noninterference.specs.respect.Vanishing.{is_masked}

-- In a sound state, in which the sessions of the group are its own, a call of a session outside it
-- is of hidden things alone: its effects are of what is hidden from the group, and are no Opening;
-- it changes no session; and it sends the group nothing.
pub record IsOfHidden (group : Group) (state : State) (moment session reference : ℕ) (call : Call)
    : Type 0 where
  pub sound : IsSound state
  pub of_group : AreOfGroup group state
  pub outside : IsTrue (not (is_among group.sessions session))
  pub closed : HasNoOpening group state.db
      (apply_all (decision_at state moment session reference call).effects state.db)
  pub masked : IsTrue (list_all (is_masked (mask_of group state.db))
      (decision_at state moment session reference call).effects)
  pub still : (decision_at state moment session reference call).changes ≡ []
  pub silent : (seat : Seat) → IsOfGroup group (viewer_of state.db seat)
      → brought_to state.db seat
      (sendings (asked_in state (moment_of state moment) session reference) call
      (decision_at state moment session reference call)) ≡ []

-- a state one entry later
abbrev pub later : ℕ → State → State
later moment state =
    record state { entries = state.entries + 1; moment = max state.moment moment }

-- Local respect: such a call leaves the state the same but for what is hidden from the group, one
-- entry later.
abbrev pub HiddenCallsVanish : Type 0
HiddenCallsVanish = (group : Group) (state : State) (pass moment session reference : ℕ)
    (call : Call) → IsOfHidden group state moment session reference call
    → erase group (after state (record_of_call pass moment session reference call))
    ≡ later moment (erase group state)
