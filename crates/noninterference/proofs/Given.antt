-- What an equal entry queues for a session of a group, and gives to it, is the same where the states before it, and
-- after it, are the same for the group.
use Rattle.std.proofs.Common.{◌≡◌, ℕ, Bool, true, false, cond, ◌==◌, List, [], ◌∷◌, ◌++◌, length, drop, refl, sym, ap}
use Rattle.std.proofs.Common.{ap₂, ◌∙◌, inl, inr, subst, eqb-true}
use Rattle.std.specs.Prelude.{take}
use Rattle.std.proofs.lemmas.Bool.{cases_eq}
use Rattle.std.proofs.lemmas.List.{append_cancel_left}
use Rattle.kom_types.specs.declared.acts.Act.{Act}
use Rattle.kom_types.specs.declared.acts.Act.TheVariants as act
use Rattle.kom_types.specs.declared.acts.Record.{Record}
use Rattle.kom_types.specs.declared.items.Item.{Item}
use Rattle.kom_types.specs.Sessions.{Waiting, drained_count}
use Rattle.kom_model.specs.After.{after}
use Rattle.kom_model.specs.Kinds.{is_among}
use Rattle.kom_model.specs.Out.{waiting_in, waiting_for, items_of, queued_for, given_by, given_from, drained_from}
use Rattle.kom_model.specs.State.{State, IsSound}
use Rattle.kom_model.proofs.Finding.{find-removed_same}
use Rattle.kom_model.proofs.Moving.{taken_by, added_by, Closes, record_moves}
use Rattle.kom_laws.specs.Erasing.{erase}
use Rattle.kom_laws.specs.Groups.{Group}
use Rattle.noninterference.proofs.steps.Acts.{acts-erased, session-same}

-- nothing is queued for a session that is closed
closed-queues : (number : ℕ) (state : State) (pass moment session : ℕ) (short : Bool) →
    queued_for number state (record {
      entry = record { pass = pass; moment = moment; act = act.Close number };
      session = session;
      short = short;
    }) ≡ []
closed-queues number state pass moment session short =
    ap (λ found. items_of (drop (length (waiting_in found)) (waiting_in found)))
    (find-removed_same number state.sessions)

module _ (group : Group) (one other : State) (same : erase group one ≡ erase group other) (number : ℕ)
    (among : is_among group.sessions number ≡ true) where
  -- what waits for the session
  pub waiting-same : waiting_for number one ≡ waiting_for number other
  waiting-same = ap waiting_in (session-same group one other same number among)

  stable-same : one.stable ≡ other.stable
  stable-same = ap (λ (state : State). state.stable) same

  drained-same : drained_from number one ≡ drained_from number other
  drained-same = ap₂ (λ stable waiting. take (drained_count stable waiting) waiting) stable-same waiting-same

  module _ (pass moment session session' : ℕ) (short short' : Bool) where
    abbrev made : Act → Record
    made what = record {
      entry = record { pass = pass; moment = moment; act = what };
      session = session;
      short = short;
    }

    abbrev made' : Act → Record
    made' what = record {
      entry = record { pass = pass; moment = moment; act = what };
      session = session';
      short = short';
    }

    pub given-same : (what : Act) → given_by one number (made what) ≡ given_by other number (made' what)
    given-same (act.Connect user host) = refl
    given-same (act.Call at reference call) = refl
    given-same (act.Broken at) = refl
    given-same (act.Drain at) = by (at == number) (eqb-true at number) where
      by : (here : Bool) → (here ≡ true → at ≡ number) →
          cond here (given_from at one ∷ []) [] ≡ cond here (given_from at other ∷ []) []
      by true is = ap (λ (items : List Item). items ∷ []) (acts-erased.given group one other at same
          (ap (is_among group.sessions) (is refl) ∙ among))
      by false is = refl
    given-same act.Flush = refl
    given-same (act.Close at) = refl

    taken-same : (what : Act) → taken_by number one (made what) ≡ taken_by number other (made' what)
    taken-same (act.Connect user host) = refl
    taken-same (act.Call at reference call) = refl
    taken-same (act.Broken at) = refl
    taken-same (act.Drain at) = by (at == number) (eqb-true at number) where
      by : (here : Bool) → (here ≡ true → at ≡ number) →
          cond here (drained_from at one) [] ≡ cond here (drained_from at other) []
      by true is = subst (λ at. drained_from at one ≡ drained_from at other) (sym (is refl)) drained-same
      by false is = refl
    taken-same act.Flush = refl
    taken-same (act.Close at) = refl

    module _ (sound : IsSound one) (sound' : IsSound other) where
      -- what stays of what waited, and what is added, is what is taken, and what waits then
      moved-same : (what : Act) → (Closes number what → ⊥) →
          waiting_for number (after one (made what)) ≡ waiting_for number (after other (made' what)) →
          queued_for number one (made what) ≡ queued_for number other (made' what)
      moved-same what stays waits = ap items_of (append_cancel_left (waiting_for number one)
          (added_by number one (made what)) (added_by number other (made' what))
          (record_moves number one (made what) sound stays
          ∙ ap₂ (λ (taken waiting : List Waiting). taken ++ waiting) (taken-same what) waits
          ∙ sym (record_moves number other (made' what) sound' stays)
          ∙ ap (λ (waiting : List Waiting). waiting ++ added_by number other (made' what)) (sym waiting-same)))

      pub queued-same : (what : Act) → waiting_for number (after one (made what))
          ≡ waiting_for number (after other (made' what)) →
          queued_for number one (made what) ≡ queued_for number other (made' what)
      queued-same (act.Connect user host) waits = moved-same (act.Connect user host) (λ closes. closes) waits
      queued-same (act.Call at reference call) waits = moved-same (act.Call at reference call) (λ closes. closes) waits
      queued-same (act.Broken at) waits = moved-same (act.Broken at) (λ closes. closes) waits
      queued-same (act.Drain at) waits = moved-same (act.Drain at) (λ closes. closes) waits
      queued-same act.Flush waits = moved-same act.Flush (λ closes. closes) waits
      queued-same (act.Close at) waits = elim (cases_eq number at) [
        | inl closes ↦ subst (λ at. queued_for number one (made (act.Close at))
            ≡ queued_for number other (made' (act.Close at))) closes
            (closed-queues number one pass moment session short
            ∙ sym (closed-queues number other pass moment session' short'))
        | inr stays ↦ moved-same (act.Close at) stays waits
      ]
