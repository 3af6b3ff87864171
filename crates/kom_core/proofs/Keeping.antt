-- What a keeper gets.
use Rattle.std.proofs.Common.{◌≡◌, ℕ, Bool, true, false, cond, List, [], Option, Some, None, refl, sym}
use Rattle.std.proofs.Common.{ap, subst, ◌∙◌}
use Rattle.std.proofs.lemmas.List.{append-nil}
use Rattle.kom_types.specs.declared.acts.Act.{Act}
use Rattle.kom_types.specs.declared.acts.Act.TheVariants as act
use Rattle.kom_types.specs.declared.acts.Entry.{Entry}
use Rattle.kom_types.specs.declared.calls.Call.{Call}
use Rattle.kom_types.specs.declared.decisions.Decision.{Decision}
use Rattle.kom_types.specs.declared.effects.Effect.{Effect}
use Rattle.kom_model.specs.State.{State, IsSound}
use Rattle.kom_model.specs.After.{decision_at}
use Rattle.kom_model.specs.Effects.{all_fit}
use Rattle.kom_model.specs.Kept.{effects_of, kept_of}
use Rattle.kom_laws.proofs.Kept.{sound-fit, kept-decided}
use Rattle.kom_state.specs.Keepers.{append_pending}
use Rattle.kom_core.specs.declared.asking.Asking.{Asking}
use Rattle.kom_core.specs.Deciding.{Decides, effects_by}
use Rattle.kom_core.specs.Steps.{made_of}

-- no effects
pub none_appended : (pending : Option (List Effect)) → append_pending [] pending ≡ pending
none_appended None = refl
none_appended (Some list) = ap (λ all. Some all) (append-nil list)

-- the effects of a call that came to this decision
pub decided_effects : (state : State) (asking : Asking) (decision : Decision) → Decides state asking decision →
    decision.effects ≡ effects_by state asking
decided_effects state asking decision decides = ap (λ (one : Decision). one.effects) decides

-- in a sound state they all fit
pub decided-fit : (state : State) (asking : Asking) (decision : Decision) → IsSound state →
    Decides state asking decision → all_fit decision.effects state.db ≡ true
decided-fit state asking decision sound decides =
    let what : Act = act.Call asking.session asking.reference asking.call.now in
    let entry : Entry = record { pass = 0; moment = asking.moment; act = what } in
    subst (λ (effects : List Effect). all_fit effects state.db ≡ true)
    (sym (decided_effects state asking decision decides)) (sound-fit state (made_of state entry false) sound)

-- and all are kept, unless memory ran out
pub kept_call : (state : State) (entry : Entry) (short : Bool) → IsSound state →
    kept_of state (made_of state entry short) ≡ cond short [] (effects_of state entry)
kept_call state entry true sound = refl
kept_call state entry false sound = kept-decided state (made_of state entry false) sound refl

-- the same of the entry of this call
pub call_kept : (state : State) (entry : Entry) (short : Bool) (session reference : ℕ) (call : Call) →
    IsSound state → entry.act ≡ act.Call session reference call →
    kept_of state (made_of state entry short)
    ≡ cond short [] (decision_at state entry.moment session reference call).effects
call_kept state entry short session reference call sound is =
    kept_call state entry short sound
    ∙ ap (λ (what : Act). cond short [] (effects_of state (record entry { act = what }))) is
