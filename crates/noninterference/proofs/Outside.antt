-- An equal call from outside a group that changes the same, in states that are the same for it, leaves such states.
use Rattle.std.proofs.Common.{◌≡◌, ℕ, Bool, true, false, not, ◌||◌, ◌&&◌, cond, List, [], ◌++◌, refl, sym, ap, ap₂}
use Rattle.std.proofs.Common.{◌∙◌, inl, inr, true≢false}
use Rattle.std.specs.List.{list_all, filter_map}
use Rattle.std.proofs.lemmas.Bool.{cases_Bool, and_parts}
use Rattle.kom_types.specs.declared.calls.Call.{Call}
use Rattle.kom_types.specs.declared.calls.Call.TheVariants as call
use Rattle.kom_types.specs.declared.decisions.Decision.{Decision}
use Rattle.kom_types.specs.declared.effects.Effect.{Effect}
use Rattle.kom_types.specs.declared.seats.Seat.{Seat}
use Rattle.kom_types.specs.declared.session_changes.SessionChange.{SessionChange}
use Rattle.kom_model.specs.After.{after, decision_at, moment_of}
use Rattle.kom_model.specs.Decide.{asked_in, decision_of}
use Rattle.kom_model.specs.Kinds.{is_among}
use Rattle.kom_model.specs.State.{State}
use Rattle.kom_model.specs.ToWhom.{is_refused, logged_out, logged_in, sendings, sent_by}
use Rattle.kom_model.specs.calls.Call.{Asked}
use Rattle.kom_laws.specs.Erasing.{erase, mask_of}
use Rattle.kom_laws.specs.Groups.{Group}
use Rattle.noninterference.specs.outputs.Brought.{brought_to}
use Rattle.noninterference.specs.steps.Calls.{record_of_call, IsReadyToCall, ActsAlike}
use Rattle.noninterference.specs.steps.Same.{AreOfGroup, IsSameFor}
use Rattle.noninterference.proofs.steps.Calls.{calls-erased, asked-same}
use Rattle.noninterference.specs.respect.Calls.{later}
use Rattle.noninterference.specs.respect.Vanishing.{is_masked}
use Rattle.noninterference.proofs.respect.Calls.{calls-vanish}
use Rattle.kom_laws.proofs.Refusing.{is_none_of, none-of, is_idle, accepts_async, refused-spares, accepted-rest}
use Rattle.noninterference.proofs.Silent.{brings_none}
use Rattle.noninterference.proofs.outputs.calls.Calls.{is_public, sent-silent, public-decided}

module _ (asked : Asked) (seat : Seat) where
  -- a call that changes nothing and does not only send brings nothing to a session
  idle-silent : (what : Call) → is_public what ≡ false → (decision_of asked what).effects ≡ [] →
      (decision_of asked what).changes ≡ [] → brings_none asked seat (sendings asked what (decision_of asked what))
  idle-silent what other none still =
      ap (λ (changes : List SessionChange). brought_to asked.db seat
      (filter_map (logged_out asked) changes ++ filter_map logged_in changes
      ++ cond (is_refused (decision_of asked what).reply) [] (sent_by asked (decision_of asked what) what))) still
      ∙ by (is_refused (decision_of asked what).reply) (λ accepted.
      let rest = accepted-rest asked what accepted in
      sent-silent asked seat what (decision_of asked what) other none
      (ap (λ (decision : Decision). is_refused decision.reply) (sym rest) ∙ accepted)
      (ap (λ (decision : Decision). decision.effects) (sym rest) ∙ none)) where
        by : (refused : Bool) →
            (refused ≡ false → brings_none asked seat (sent_by asked (decision_of asked what) what)) →
            brings_none asked seat (cond refused [] (sent_by asked (decision_of asked what) what))
        by true silent = refl
        by false silent = silent refl

module _ (group : Group) (one other : State) (pass moment session reference : ℕ) (what : Call)
    (ready : IsReadyToCall group one moment session reference what)
    (ready' : IsReadyToCall group other moment session reference what) (worlds : IsSameFor group one other)
    (of_group' : AreOfGroup group other) (outside : is_among group.sessions session ≡ false) where
  abbrev asked_at : State → Asked
  asked_at state = asked_in state (moment_of state moment) session reference

  abbrev decision : State → Decision
  decision state = decision_at state moment session reference what

  abbrev next : State → State
  next state = after state (record_of_call pass moment session reference what)

  public-same : is_public what ≡ true → decision one ≡ decision other
  public-same public = sym (public-decided group (asked_at one) what public)
      ∙ ap (λ asked. decision_of asked what)
      (asked-same group one other moment session reference what ready.sound ready'.sound worlds)
      ∙ public-decided group (asked_at other) what public

  alike-same : ActsAlike (decision one) (decision other) → erase group (next one) ≡ erase group (next other)
  alike-same alike = calls-erased.outside group one other pass moment session reference what ready ready' worlds
      (ap not outside) alike

  -- a call that changes nothing and sends nothing
  idle-vanishes : (state : State) → IsReadyToCall group state moment session reference what → AreOfGroup group state →
      is_public what ≡ false → (decision state).effects ≡ [] → (decision state).changes ≡ [] →
      erase group (next state) ≡ later moment (erase group state)
  idle-vanishes state is of_group other none still = calls-vanish group state pass moment session reference what
      (record {
        sound = is.sound;
        of_group = of_group;
        outside = ap not outside;
        closed = is.ready.closed;
        masked = ap (list_all (is_masked (mask_of group state.db))) none;
        still = still;
        silent = λ seat own. idle-silent (asked_at state) seat what other none still;
      })

  not-public : is_public what ≡ false → accepts_async what ≡ false
  not-public other = by what other where
    by : (what : Call) → is_public what ≡ false → accepts_async what ≡ false
    by (call.AcceptAsync numbers) other = absurd (true≢false other)
    by what other = refl

  -- a call that changes something is not refused
  busy-accepted : (state : State) → is_public what ≡ false → is_idle (decision state) ≡ false →
      is_refused (decision state).reply ≡ false
  busy-accepted state other busy = by (is_refused (decision state).reply) (is_idle (decision state)) busy
      (refused-spares (asked_at state) what (not-public other)) where
        by : (refused idle : Bool) → idle ≡ false → (not refused || idle) ≡ true → refused ≡ false
        by false idle busy spared = refl
        by true idle busy spared = absurd (true≢false (sym spared ∙ busy))

  pub outside-same : (decision one).effects ≡ (decision other).effects →
      (decision one).changes ≡ (decision other).changes → erase group (next one) ≡ erase group (next other)
  outside-same effects changes = elim (cases_Bool (is_public what)) [
    | inl public ↦
        let same : decision one ≡ decision other = public-same public in
        alike-same (record {
          effects = effects;
          changes = changes;
          refused = ap (λ (decision : Decision). is_refused decision.reply) same;
        })
    | inr private ↦ elim (cases_Bool (is_idle (decision one))) [
      | inl idle ↦
          let parts = and_parts (is_none_of (decision one).effects) (is_none_of (decision one).changes) idle in
          let none : (decision one).effects ≡ [] = none-of (decision one).effects parts.0 in
          let still : (decision one).changes ≡ [] = none-of (decision one).changes parts.1 in
          idle-vanishes one ready worlds.of_group private none still
          ∙ ap (later moment) worlds.same
          ∙ sym (idle-vanishes other ready' of_group' private (sym effects ∙ none) (sym changes ∙ still))
      | inr busy ↦ alike-same (record {
        effects = effects;
        changes = changes;
        refused = busy-accepted one private busy
            ∙ sym (busy-accepted other private
            (ap₂ (λ (effects : List Effect) (changes : List SessionChange).
            is_none_of effects && is_none_of changes) (sym effects) (sym changes) ∙ busy));
      })
    ]
  ]
