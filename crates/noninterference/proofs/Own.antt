-- A quiet act of a group's session, or of none, in one of two states that are the same for the group is quiet in the
-- other too, and the same step to the group.
use Rattle.std.proofs.Common.{◌≡◌, ℕ, Bool, true, false, not, ◌||◌, ◌&&◌, Some, None, refl, sym, ap, ◌∙◌, inl, inr}
use Rattle.std.proofs.Common.{subst, true≢false}
use Rattle.std.specs.Prelude.{map, IsTrue}
use Rattle.std.specs.List.{AllByRecursion}
use Rattle.std.proofs.lemmas.Bool.{not-true}
use Rattle.kom_types.specs.declared.acts.Act.{Act}
use Rattle.kom_types.specs.declared.acts.Act.TheVariants as act
use Rattle.kom_types.specs.declared.acts.Entry.{Entry}
use Rattle.kom_types.specs.declared.acts.Record.{Record}
use Rattle.kom_types.specs.declared.calls.Call.{Call}
use Rattle.kom_types.specs.declared.decisions.Decision.{Decision}
use Rattle.kom_types.specs.declared.seats.Seat.{Seat}
use Rattle.kom_types.specs.Sessions.{Session, waiting_limits}
use Rattle.kom_model.specs.declared.viewers.Viewer.{Viewer}
use Rattle.kom_model.specs.After.{MayFollow, after, after_act, deliveries, decision_at}
use Rattle.kom_model.specs.Db.{Db}
use Rattle.kom_model.specs.Effects.{apply_all, all_fit}
use Rattle.kom_model.specs.Kinds.{is_among}
use Rattle.kom_model.specs.State.{State, IsSound, seats_of}
use Rattle.kom_model.specs.ToWhom.{is_refused}
use Rattle.kom_model.specs.Viewers.{viewer_of, is_strong_seat}
use Rattle.kom_model.proofs.Queueing.{queue_all-rows}
use Rattle.kom_model.proofs.Seating.{of-seats}
use Rattle.kom_model.proofs.whole.Counts.{all-weaker}
use Rattle.kom_laws.specs.Erasing.{erased_db, erase}
use Rattle.kom_laws.specs.Groups.{Group}
use Rattle.kom_laws.proofs.Kept.{sound-fit}
use Rattle.noninterference.specs.Hiding.{IsSameStep, OwnStepsHide}
use Rattle.noninterference.specs.respect.Hidden.{is_hidden, is_hidden_call, is_outside, person_at}
use Rattle.noninterference.specs.respect.Quiet.{AreWeak, IsQuiet, ChangesSame, login_of}
use Rattle.noninterference.specs.respect.Quiet.{logs_in_own, caller_of}
use Rattle.noninterference.specs.steps.Acts.{is_by}
use Rattle.noninterference.specs.steps.Calls.{record_of_call, IsReadyToCall}
use Rattle.noninterference.specs.steps.Same.{IsSameFor}
use Rattle.noninterference.specs.steps.Steps.{HasNoOpening}
use Rattle.noninterference.proofs.steps.Acts.{acts-erased}
use Rattle.noninterference.proofs.steps.Calls.{calls-erased, seats-erased, viewer-erased, all-onto}
use Rattle.noninterference.proofs.steps.Steps.{closed-other}
use Rattle.noninterference.proofs.Along.{steps-hide}
use Rattle.noninterference.proofs.Stepping.{ready-to-call, rows-after}

-- ---- no session of a group is strong in the one state where none is in the other
weak-same : (group : Group) (one other : State) → erase group one ≡ erase group other → AreWeak group one →
    AreWeak group other
weak-same group one other same weak =
    let IsWeak : Db → Seat → Type 0 =
    λ db seat. IsTrue (not (is_among group.sessions seat.number && is_strong_seat db seat)) in
    let strong : (seat : Seat) → is_strong_seat one.db seat ≡ is_strong_seat other.db seat =
    λ seat. ap (λ (viewer : Viewer). viewer.strong) (sym (viewer-erased group one.db seat)
    ∙ ap (λ db. viewer_of db seat) (ap (λ (state : State). state.db) same) ∙ viewer-erased group other.db seat) in
    let seats : seats_of one ≡ seats_of other = sym (seats-erased group one.sessions)
    ∙ ap (λ (state : State). map (λ (session : Session). session.seat) state.sessions) same
    ∙ seats-erased group other.sessions in
    of-seats (IsWeak other.db) other.sessions (subst (AllByRecursion (IsWeak other.db)) seats
    (all-weaker (IsWeak one.db) (IsWeak other.db) (λ seat is.
    subst (λ is_strong. IsTrue (not (is_among group.sessions seat.number && is_strong))) (strong seat) is)
    (seats_of one) (all-onto (IsWeak one.db) (λ (session : Session). session.seat) one.sessions weak)))

no-outside : (among apart hidden : Bool) → among ≡ true → ((not among && apart) && hidden) ≡ true → ⊥
no-outside true apart hidden own is = absurd (true≢false (sym is))
no-outside false apart hidden own is = absurd (true≢false (sym own))

and-true : (b : Bool) → (b && true) ≡ b
and-true true = refl
and-true false = refl

-- nothing is opened where the rows stay
itself-closed : (group : Group) (db : Db) → HasNoOpening group db db
itself-closed group db = record {
  conference = λ number stood stands unseen. unseen;
  text = λ number stood stands unread. unread;
}

abbrev record_of : Entry → ℕ → Bool → Record
record_of entry session short = record { entry = entry; session = session; short = short }

module _ (group : Group) (one other : State) (sound : IsSound one) (sound' : IsSound other)
    (worlds : IsSameFor group one other) where
  module _ (pass moment session session' : ℕ) where
    abbrev made : Act → Record
    made what = record {
      entry = record { pass = pass; moment = moment; act = what };
      session = session;
      short = false;
    }

    abbrev made' : Act → Record
    made' what = record {
      entry = record { pass = pass; moment = moment; act = what };
      session = session';
      short = false;
    }

    rows-queued : (what : Act) → (after other (made' what)).db ≡ (after_act other (made' what)).db
    rows-queued what = ap (λ (state : State). state.db)
        (queue_all-rows waiting_limits (deliveries other (made' what)) (after_act other (made' what)))

    still-closed : (what : Act) → (after_act other (made' what)).db ≡ other.db →
        HasNoOpening group other.db (after other (made' what)).db
    still-closed what still = subst (λ (db : Db). HasNoOpening group other.db db) (sym (rows-queued what ∙ still))
        (itself-closed group other.db)

    module _ (at reference : ℕ) (what : Call) (among : is_among group.sessions at ≡ true) where
      abbrev decision : State → Decision
      decision state = decision_at state moment at reference what

      decided : decision one ≡ decision other
      decided = calls-erased.decided group one other moment at reference what sound sound' worlds among

      module _ (quiet : IsQuiet group one (made (act.Call at reference what))) where
        ready : IsReadyToCall group one moment at reference what
        ready = ready-to-call group one pass moment at reference session what sound quiet

        rows-same : erased_db group one.db ≡ erased_db group other.db
        rows-same = ap (λ (state : State). state.db) worlds.same

        fit : IsTrue (all_fit (decision one).effects other.db)
        fit = subst (λ (decision : Decision). IsTrue (all_fit decision.effects other.db)) (sym decided)
            (sound-fit other (record_of_call pass moment at reference what) sound')

        effects-closed : HasNoOpening group other.db (apply_all (decision other).effects other.db)
        effects-closed = subst (λ (decision : Decision).
            HasNoOpening group other.db (apply_all decision.effects other.db)) decided
            (closed-other group (decision one).effects one.db other.db ready.ready sound'.whole sound'.protected fit
            rows-same)

        call-closed : HasNoOpening group other.db (after other (made' (act.Call at reference what))).db
        call-closed = subst (λ (db : Db). HasNoOpening group other.db db)
            (sym (rows-after other pass moment at reference what)) effects-closed

        call-states : erase group (after one (made (act.Call at reference what)))
            ≡ erase group (after other (made' (act.Call at reference what)))
        call-states = calls-erased.own group one other pass moment at reference what ready (record {
          sound = sound';
          ready = record {
            whole = sound'.whole;
            protected = sound'.protected;
            fit = sound-fit other (record_of_call pass moment at reference what) sound';
            closed = effects-closed;
          };
        }) worlds among

      call-logs : logs_in_own group one (made (act.Call at reference what)).entry
          ≡ logs_in_own group other (made' (act.Call at reference what)).entry
      call-logs = ap (λ (decision : Decision). elim (login_of what) [
        | None ↦ true
        | Some person ↦ not (is_among group.sessions at && not (is_refused decision.reply))
            || is_among group.persons person
      ]) decided

    closed-same : (what : Act) → is_by group what ≡ true → IsQuiet group one (made what) →
        HasNoOpening group other.db (after other (made' what)).db
    closed-same (act.Connect user host) own quiet = still-closed (act.Connect user host) refl
    closed-same (act.Call at reference what) own quiet = call-closed at reference what own quiet
    closed-same (act.Broken at) own quiet = still-closed (act.Broken at) refl
    closed-same (act.Drain at) own quiet = still-closed (act.Drain at) refl
    closed-same act.Flush own quiet = still-closed act.Flush refl
    closed-same (act.Close at) own quiet = still-closed (act.Close at) refl

    states-same : (what : Act) → is_by group what ≡ true → IsQuiet group one (made what) →
        erase group (after one (made what)) ≡ erase group (after other (made' what))
    states-same (act.Connect user host) own quiet =
        acts-erased.after group one other (made (act.Connect user host)) worlds.same refl
    states-same (act.Call at reference what) own quiet = call-states at reference what own quiet
    states-same (act.Broken at) own quiet =
        acts-erased.after group one other (made (act.Broken at)) worlds.same refl
    states-same (act.Drain at) own quiet =
        acts-erased.after group one other (made (act.Drain at)) worlds.same refl
    states-same act.Flush own quiet = acts-erased.after group one other (made act.Flush) worlds.same refl
    states-same (act.Close at) own quiet =
        acts-erased.after group one other (made (act.Close at)) worlds.same refl

    logs-same : (what : Act) → is_by group what ≡ true →
        logs_in_own group one (made what).entry ≡ logs_in_own group other (made' what).entry
    logs-same (act.Connect user host) own = refl
    logs-same (act.Call at reference what) own = call-logs at reference what own
    logs-same (act.Broken at) own = refl
    logs-same (act.Drain at) own = refl
    logs-same act.Flush own = refl
    logs-same (act.Close at) own = refl

    -- no act of the group is hidden from it, and one of no session changes nothing that a call does
    never-hidden : (state : State) (what : Act) → is_by group what ≡ true →
        is_hidden group state (made what).entry ≡ true → ⊥
    never-hidden state (act.Connect user host) own hidden = absurd (true≢false (sym hidden))
    never-hidden state (act.Call at reference what) own hidden =
        no-outside (is_among group.sessions at) (not (is_among group.persons (person_at state at)))
        (is_hidden_call group state moment at reference what) own hidden
    never-hidden state (act.Broken at) own hidden = absurd (true≢false (sym hidden))
    never-hidden state (act.Drain at) own hidden =
        no-outside (is_among group.sessions at) (not (is_among group.persons (person_at state at))) true own
        (and-true (is_outside group state at) ∙ hidden)
    never-hidden state act.Flush own hidden = absurd (true≢false (sym hidden))
    never-hidden state (act.Close at) own hidden = absurd (true≢false (sym hidden))

    nothing-changed : (what : Act) → is_by group what ≡ true →
        not (is_among group.sessions (caller_of what)) ≡ true → ChangesSame one other (made what).entry
    nothing-changed (act.Connect user host) own apart = record { effects = refl; changes = refl }
    nothing-changed (act.Call at reference what) own apart = absurd (true≢false (sym own ∙ not-true _ apart))
    nothing-changed (act.Broken at) own apart = record { effects = refl; changes = refl }
    nothing-changed (act.Drain at) own apart = record { effects = refl; changes = refl }
    nothing-changed act.Flush own apart = record { effects = refl; changes = refl }
    nothing-changed (act.Close at) own apart = record { effects = refl; changes = refl }

    own-quiet : (what : Act) → is_by group what ≡ true → IsQuiet group one (made what) →
        MayFollow other (made' what) → IsQuiet group other (made' what)
    own-quiet what own quiet follows = record {
      follows = follows;
      long = refl;
      closed = closed-same what own quiet;
      weak = weak-same group (after one (made what)) (after other (made' what)) (states-same what own quiet)
          quiet.weak;
      own = sym (logs-same what own) ∙ quiet.own;
    }

    own-step : (what : Act) → is_by group what ≡ true → IsQuiet group one (made what) →
        MayFollow other (made' what) →
        IsSameStep group one (made what) other (made' what) × IsQuiet group other (made' what)
    own-step what own quiet follows =
        let quiet' : IsQuiet group other (made' what) = own-quiet what own quiet follows in (
          steps-hide group one other (made what) (made' what) sound sound' worlds (refl, inl refl) (record {
            first = quiet;
            second = quiet';
            hidden = inl refl;
            texts = λ given given' hidden is is'. absurd (never-hidden one what own hidden.0);
            outside = λ equal apart. inr (nothing-changed what own apart);
          }),
          quiet',
        )

  -- ---- the records of one entry, which are not short
  long-step : (entry : Entry) (session session' : ℕ) (short short' : Bool) → short ≡ false → short' ≡ false →
      is_by group entry.act ≡ true → IsQuiet group one (record_of entry session short) →
      MayFollow other (record_of entry session' short') →
      IsSameStep group one (record_of entry session short) other (record_of entry session' short')
      × IsQuiet group other (record_of entry session' short')
  long-step entry session session' false false long long' own quiet follows =
      own-step entry.pass entry.moment session session' entry.act own quiet follows
  long-step entry session session' true short' long long' own quiet follows = absurd (true≢false long)
  long-step entry session session' false true long long' own quiet follows = absurd (true≢false long')

pub own-steps-hide : OwnStepsHide
own-steps-hide group one other made made' sound sound' worlds own equal quiet follows long =
    subst (λ entry. MayFollow other (record_of entry made'.session made'.short) →
    IsSameStep group one made other (record_of entry made'.session made'.short)
    × IsQuiet group other (record_of entry made'.session made'.short)) equal
    (λ follows. long-step group one other sound sound' worlds made.entry made.session made'.session made.short
    made'.short quiet.long long own quiet follows) follows
