-- What a call of a group makes of two states that are the same for it.
use Rattle.std.specs.Prelude.{◌≡◌, ℕ, false, not, IsTrue}
use Rattle.kom_types.specs.declared.acts.Act.TheVariants as act
use Rattle.kom_types.specs.declared.acts.Record.{Record}
use Rattle.kom_types.specs.declared.calls.Call.{Call}
use Rattle.kom_types.specs.declared.decisions.Decision.{Decision}
use Rattle.kom_model.specs.After.{decision_at, after}
use Rattle.kom_model.specs.Kinds.{is_among}
use Rattle.kom_model.specs.State.{State, IsSound}
use Rattle.kom_model.specs.ToWhom.{is_refused}
use Rattle.kom_laws.specs.Groups.{Group}
use Rattle.kom_laws.specs.Erasing.{erase}
use Rattle.noninterference.specs.steps.Same.{IsSameFor}
use Rattle.noninterference.specs.steps.Steps.{IsReadyFor}

-- the record of a call that is not short
abbrev pub record_of_call : ℕ → ℕ → ℕ → ℕ → Call → Record
record_of_call pass moment session reference call = record {
  entry = record { pass = pass; moment = moment; act = act.Call session reference call };
  session = session;
  short = false;
}

-- a state in which a call may be made whose effects are no Opening to the group
pub record IsReadyToCall (group : Group) (state : State) (moment session reference : ℕ)
    (call : Call) : Type 0 where
  pub sound : IsSound state
  pub ready : IsReadyFor group (decision_at state moment session reference call).effects state.db

-- two decisions change the same, and both refuse or neither does, whatever they answer
pub record ActsAlike (one other : Decision) : Type 0 where
  pub effects : one.effects ≡ other.effects
  pub changes : one.changes ≡ other.changes
  pub refused : is_refused one.reply ≡ is_refused other.reply

-- Step consistency of calls: in states that are the same for a group, a call of one of its sessions
-- comes to the same, and leaves states that are the same but for what is hidden from it; and so
-- does a call of another session that acts alike in both. So what waits for the group stays the
-- same.
pub record CallsStandErased : Type 0 where
  pub decided : (group : Group) (one other : State) (moment session reference : ℕ) (call : Call)
      → IsSound one → IsSound other → IsSameFor group one other
      → IsTrue (is_among group.sessions session)
      → decision_at one moment session reference call
      ≡ decision_at other moment session reference call
  pub own : (group : Group) (one other : State) (pass moment session reference : ℕ) (call : Call)
      → IsReadyToCall group one moment session reference call
      → IsReadyToCall group other moment session reference call → IsSameFor group one other
      → IsTrue (is_among group.sessions session)
      → erase group (after one (record_of_call pass moment session reference call))
      ≡ erase group (after other (record_of_call pass moment session reference call))
  pub outside : (group : Group) (one other : State) (pass moment session reference : ℕ)
      (call : Call) → IsReadyToCall group one moment session reference call
      → IsReadyToCall group other moment session reference call → IsSameFor group one other
      → IsTrue (not (is_among group.sessions session))
      → ActsAlike (decision_at one moment session reference call)
      (decision_at other moment session reference call)
      → erase group (after one (record_of_call pass moment session reference call))
      ≡ erase group (after other (record_of_call pass moment session reference call))
