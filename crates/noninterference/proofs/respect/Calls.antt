-- A call of what is hidden from a group leaves the state the same for the group.
use Rattle.std.proofs.Common.{ℕ, ap, ◌∙◌}
use Rattle.kom_types.specs.declared.calls.Call.{Call}
use Rattle.kom_model.specs.After.{decision_at, moment_of}
use Rattle.kom_model.specs.Db.{Db}
use Rattle.kom_model.specs.Decide.{asked_in}
use Rattle.kom_model.specs.State.{State}
use Rattle.kom_laws.specs.Erasing.{erase}
use Rattle.kom_laws.specs.Groups.{Group}
use Rattle.kom_laws.proofs.Calls.{decided-fit}
use Rattle.noninterference.specs.steps.Steps.{IsReadyFor}
use Rattle.noninterference.specs.respect.Calls.{IsOfHidden, later, HiddenCallsVanish}
use Rattle.noninterference.proofs.respect.Silence.{IsSilent, after-silent}
use Rattle.noninterference.proofs.respect.Vanishing.{hidden-vanish}

module _ (group : Group) (state : State) (moment session reference : ℕ) (call : Call)
    (hidden : IsOfHidden group state moment session reference call) where
  pub hidden-silent : IsSilent group state moment session reference call
  hidden-silent = record {
    sound = hidden.sound;
    of_group = hidden.of_group;
    outside = hidden.outside;
    still = hidden.still;
    silent = hidden.silent;
  }

  hidden-ready : IsReadyFor group (decision_at state moment session reference call).effects state.db
  hidden-ready = record {
    whole = hidden.sound.whole;
    protected = hidden.sound.protected;
    fit = decided-fit (asked_in state (moment_of state moment) session reference) call hidden.sound.whole
        hidden.sound.seated;
    closed = hidden.closed;
  }

pub calls-vanish : HiddenCallsVanish
calls-vanish group state pass moment session reference call hidden =
    after-silent group state moment session reference call
    (hidden-silent group state moment session reference call hidden) pass
    ∙ ap (λ (db : Db). record (later moment (erase group state)) { db = db })
    (hidden-vanish.effects group state.db (decision_at state moment session reference call).effects
    (hidden-ready group state moment session reference call hidden) hidden.masked)
