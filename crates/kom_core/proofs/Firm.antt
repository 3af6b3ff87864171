-- A firm call has no effects, changes no session and sends nothing.
use Rattle.std.proofs.Common.{◌≡◌, ◌==◌, ◌||◌, ◌&&◌, not, ℕ, Bool, true, false, [], Option, Some, None, refl, ap}
use Rattle.std.proofs.Common.{◌∙◌}
use Rattle.std.proofs.Common.{inl, inr}
use Rattle.std.specs.Option.{is_some}
use Rattle.std.proofs.lemmas.Bool.{or_cases, and_parts}
use Rattle.kom_types.specs.declared.calls.Call.{Call}
use Rattle.kom_types.specs.declared.calls.Call.TheVariants as call
use Rattle.kom_types.specs.declared.conferences.ConferenceRow.{ConferenceRow}
use Rattle.kom_types.specs.declared.decisions.Decision.{Decision}
use Rattle.kom_types.specs.declared.texts.TextRow.{TextRow}
use Rattle.kom_types.specs.calls.Numbers.{number_of_call}
use Rattle.kom_model.specs.declared.call_errors.Refused.{Refused}
use Rattle.kom_model.specs.State.{State}
use Rattle.kom_model.specs.declared.kinds.TheConstants.{FIRM_NUMBERS}
use Rattle.kom_model.specs.Kinds.{accept_async, is_among}
use Rattle.kom_model.specs.calls.Call.{Asked}
use Rattle.kom_model.specs.calls.Conferences.{nearest}
use Rattle.kom_model.specs.calls.Texts.{nearest_text}
use Rattle.kom_model.specs.Decide.{definition_of, decision_of, was_refused, is_firm}
use Rattle.kom_model.specs.ToWhom.{is_refused}
use Rattle.kom_core.specs.declared.asking.Asking.{Asking}
use Rattle.kom_core.specs.Deciding.{asked_by, Decides, IsFirm}
use Rattle.async_fanout.specs.Silent.{may_send, is_silent}
use Rattle.kom_model.proofs.Deciding.{decision-holds, decision-meets}

-- nothing comes of a call but its reply
abbrev IsIdle : Call → Decision → Type 0
IsIdle what decision = (decision.effects ≡ []) × (decision.changes ≡ []) × (may_send what ≡ false)

nearest-idle : (asked : Asked) (start : ℕ) (found : Option ConferenceRow) (what : Call) → may_send what ≡ false →
    IsIdle what (nearest asked start found).rest
nearest-idle asked start None what silent = (refl, refl, silent)
nearest-idle asked start (Some row) what silent = (refl, refl, silent)

nearest_text-idle : (asked : Asked) (start : ℕ) (found : Option TextRow) (what : Call) → may_send what ≡ false →
    IsIdle what (nearest_text asked start found).rest
nearest_text-idle asked start None what silent = (refl, refl, silent)
nearest_text-idle asked start (Some row) what silent = (refl, refl, silent)

-- of a call that takes no memory
firm-idle : (asked : Asked) (what : Call) → is_among FIRM_NUMBERS (number_of_call what) ≡ true →
    IsIdle what (definition_of asked what).rest
firm-idle asked call.GetTime among = (refl, refl, refl)
firm-idle asked call.WhoAmI among = (refl, refl, refl)
firm-idle asked call.FirstUnusedConfNo among = (refl, refl, refl)
firm-idle asked call.FirstUnusedTextNo among = (refl, refl, refl)
firm-idle asked (call.FindNextTextNo start) among =
    nearest_text-idle asked start _ (call.FindNextTextNo start) refl
firm-idle asked (call.FindPreviousTextNo start) among =
    nearest_text-idle asked start _ (call.FindPreviousTextNo start) refl
firm-idle asked (call.FindNextConfNo start) among =
    nearest-idle asked start _ (call.FindNextConfNo start) refl
firm-idle asked (call.FindPreviousConfNo start) among =
    nearest-idle asked start _ (call.FindPreviousConfNo start) refl
firm-idle asked other among = cc

refused-early : (asked : Asked) (what : Call) → was_refused what ≡ true → (definition_of asked what).early ≡ None → ⊥
refused-early asked (call.Refused code status) is early = cc
refused-early asked other is early = cc

some-early : (early : Option Refused) → is_some early ≡ true → early ≡ None → ⊥
some-early None is none = cc
some-early (Some refused) is none = cc

-- a firm call that no early guard refuses takes no memory
pub firm-among : (asked : Asked) (what : Call) → is_firm asked what ≡ true → (definition_of asked what).early ≡ None →
    is_among FIRM_NUMBERS (number_of_call what) ≡ true
unfolding is_firm
firm-among asked what firm early =
    let among : Bool = is_among FIRM_NUMBERS (number_of_call what) in
    let changes_none : Bool = not (number_of_call what == accept_async) in
    let guarded : Bool = is_some (definition_of asked what).early in
    elim (or_cases (among || was_refused what) (changes_none && guarded) firm) [
      | inl first ↦ elim (or_cases among (was_refused what) first) [
        | inl is ↦ is
        | inr refused ↦ absurd (refused-early asked what refused early)
      ]
      | inr second ↦
          absurd (some-early (definition_of asked what).early (and_parts changes_none guarded second).1 early)
    ]

decision-none : (asked : Asked) (what : Call) → is_firm asked what ≡ true → (decision_of asked what).effects ≡ []
decision-none asked what firm = decision-holds (λ effects. effects ≡ []) refl asked what
    (λ early. (firm-idle asked what (firm-among asked what firm early)).0)

-- of a call that came to this decision
pub no_effects-firm : (state : State) (asking : Asking) (decision : Decision) → Decides state asking decision →
    IsFirm state asking → decision.effects ≡ []
no_effects-firm state asking decision decides firm =
    ap (λ one. one.effects) decides ∙ decision-none (asked_by state asking) asking.call.now firm

or-true : (b : Bool) → (b || true) ≡ true
or-true true = refl
or-true false = refl

idle-silent : (what : Call) (decision : Decision) → IsIdle what decision → is_silent what decision ≡ true
idle-silent what decision idle = rw (idle.1, idle.2) (or-true (is_refused decision.reply))

decision-silent : (asked : Asked) (what : Call) → is_firm asked what ≡ true →
    is_silent what (decision_of asked what) ≡ true
decision-silent asked what firm = decision-meets (λ decision. is_silent what decision ≡ true) (λ why. refl) asked what
    (λ early. idle-silent what (definition_of asked what).rest
    (firm-idle asked what (firm-among asked what firm early)))

-- of a call that came to this decision
pub silent_firm : (state : State) (asking : Asking) (decision : Decision) → Decides state asking decision →
    IsFirm state asking → is_silent asking.call.now decision ≡ true
silent_firm state asking decision decides firm =
    ap (is_silent asking.call.now) decides ∙ decision-silent (asked_by state asking) asking.call.now firm
