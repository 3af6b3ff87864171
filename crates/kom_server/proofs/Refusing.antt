-- Whether the store refused a flush, along a history.
use Rattle.std.proofs.Common.{◌≡◌, ℕ, Bool, true, false, ◌||◌, ◌&&◌, ◌⊎◌, List, [], ◌∷◌, inl, inr, refl, sym}
use Rattle.std.proofs.Common.{ap, ◌∙◌}
use Rattle.std.proofs.lemmas.Bool.{false≢true}
use Rattle.std.specs.List.{list_any}
use Rattle.kom_types.specs.declared.acts.Act.{Act}
use Rattle.kom_types.specs.declared.acts.Act.TheVariants as act
use Rattle.kom_types.specs.declared.acts.Record.{Record}
use Rattle.kom_types.specs.declared.session_changes.SessionChange.{SessionChange}
use Rattle.kom_types.specs.Sessions.{Limits, waiting_limits, queue}
use Rattle.kom_model.specs.After.{after_act, after, deliveries, decision_at, moment_of, with_session, queue_all}
use Rattle.kom_model.specs.After.{make_change, make_changes}
use Rattle.kom_model.specs.Db.{Db}
use Rattle.kom_model.specs.Legal.{state_after}
use Rattle.kom_model.specs.Effects.{apply_all}
use Rattle.kom_model.specs.Sending.{Delivery}
use Rattle.kom_model.specs.State.{State, opening_state}
use Rattle.kom_server.specs.Statuses.{HasRefused}

abbrev pub is_flush : Act → Bool
is_flush (act.Connect user host) = false
is_flush (act.Call session reference call) = false
is_flush (act.Broken session) = false
is_flush (act.Drain session) = false
is_flush act.Flush = true
is_flush (act.Close session) = false

or_none : (b : Bool) → (b || false) ≡ b
or_none true = refl
or_none false = refl

or_one : (b : Bool) → (b || true) ≡ true
or_one true = refl
or_one false = refl

or_assoc : (a b c : Bool) → ((a || b) || c) ≡ (a || (b || c))
or_assoc true b c = refl
or_assoc false b c = refl

queue_keeps : (limits : Limits) (sent : List Delivery) (state : State) →
    (queue_all limits sent state).store_refused ≡ state.store_refused
queue_keeps limits [] state = refl
queue_keeps limits (one ∷ sent) state =
    queue_keeps limits sent (with_session one.session (queue limits state.entries one.item) state)

changes_keep : (moment : ℕ) (changes : List SessionChange) (state : State) →
    (make_changes moment changes state).store_refused ≡ state.store_refused
changes_keep moment [] state = refl
changes_keep moment (change ∷ changes) state = changes_keep moment changes (make_change moment change state)

abbrev pub was_refused : Record → Bool
was_refused made = is_flush made.entry.act && made.short

flush_refused : (what : Act) (short : Bool) → (is_flush what && short) ≡ true → (what ≡ act.Flush) × (short ≡ true)
flush_refused (act.Connect user host) short is = absurd (false≢true is)
flush_refused (act.Call session reference call) short is = absurd (false≢true is)
flush_refused (act.Broken session) short is = absurd (false≢true is)
flush_refused (act.Drain session) short is = absurd (false≢true is)
flush_refused act.Flush short is = (refl, is)
flush_refused (act.Close session) short is = absurd (false≢true is)

either_is : (a b : Bool) → (a || b) ≡ true → (a ≡ true) ⊎ (b ≡ true)
either_is true b is = inl refl
either_is false b is = inr is

later_is : (a b : Bool) → b ≡ true → (a || b) ≡ true
later_is true b is = refl
later_is false b is = is

-- that a history has such a record
pub refused_has : (history : List Record) → list_any was_refused history ≡ true → HasRefused history
refused_has [] is = absurd (false≢true is)
refused_has (made ∷ history) is =
    elim (either_is (was_refused made) (list_any was_refused history) is) [
      | inl one ↦ inl (flush_refused made.entry.act made.short one)
      | inr other ↦ inr (refused_has history other)
    ]

pub has_refused : (history : List Record) → HasRefused history → list_any was_refused history ≡ true
has_refused [] has = absurd has
has_refused (made ∷ history) (inl one) = rw (one.0, one.1) refl
has_refused (made ∷ history) (inr other) =
    later_is (was_refused made) (list_any was_refused history) (has_refused history other)

acted_refused : (state : State) (pass moment session : ℕ) (what : Act) (short : Bool) →
    let made : Record = record {
      entry = record { pass = pass; moment = moment; act = what };
      session = session;
      short = short;
    } in
    (after_act state made).store_refused ≡ (state.store_refused || was_refused made)
acted_refused state pass moment session (act.Connect user host) short = sym (or_none state.store_refused)
acted_refused state pass moment session (act.Call caller reference call) true = sym (or_none state.store_refused)
acted_refused state pass moment session (act.Call caller reference call) false =
    let decision = decision_at state moment caller reference call in
    changes_keep (moment_of state moment) decision.changes
    (record state { db = apply_all decision.effects state.db })
    ∙ sym (or_none state.store_refused)
acted_refused state pass moment session (act.Broken caller) short = sym (or_none state.store_refused)
acted_refused state pass moment session (act.Drain caller) short = sym (or_none state.store_refused)
acted_refused state pass moment session act.Flush true = sym (or_one state.store_refused)
acted_refused state pass moment session act.Flush false = sym (or_none state.store_refused)
acted_refused state pass moment session (act.Close caller) short = sym (or_none state.store_refused)

after_refused : (state : State) (made : Record) →
    (after state made).store_refused ≡ (state.store_refused || was_refused made)
after_refused state made =
    queue_keeps waiting_limits (deliveries state made) (after_act state made)
    ∙ acted_refused state made.entry.pass made.entry.moment made.session made.entry.act made.short

refused_along : (state : State) (history : List Record) →
    (state_after state history).store_refused ≡ (state.store_refused || list_any was_refused history)
refused_along state [] = sym (or_none state.store_refused)
refused_along state (made ∷ history) =
    refused_along (after state made) history
    ∙ ap (λ b. b || list_any was_refused history) (after_refused state made)
    ∙ or_assoc state.store_refused (was_refused made) (list_any was_refused history)

-- from a server before its first entry on
pub refused_since : (db : Db) (history : List Record) →
    (state_after (opening_state db) history).store_refused ≡ list_any was_refused history
refused_since db history = refused_along (opening_state db) history
