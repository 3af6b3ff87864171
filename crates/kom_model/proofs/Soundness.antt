-- A sound state stays sound.
use Rattle.std.proofs.Common.{◌≡◌, ℕ, ◌+◌, ◌≤◌, Bool, true, false, cond, List, [], ◌∷◌, ◌++◌, refl}
use Rattle.std.proofs.Common.{ap, ap₂, subst, sym, ◌∙◌, arith}
use Rattle.std.specs.Prelude.{map}
use Rattle.std.specs.List.{filter}
use Rattle.std.proofs.lemmas.Bool.{cond_both}
use Rattle.kom_types.specs.declared.acts.Act.{Act}
use Rattle.kom_types.specs.declared.acts.Act.TheVariants as act
use Rattle.kom_types.specs.declared.acts.Record.{Record}
use Rattle.kom_types.specs.declared.decisions.Decision.{Decision}
use Rattle.kom_types.specs.declared.items.Item.{Item}
use Rattle.kom_types.specs.declared.seats.Seat.{Seat}
use Rattle.kom_types.specs.Sessions.{Waiting, Session, Limits, waiting_limits, after_drain, drained_count, is_session}
use Rattle.kom_types.specs.Sessions.{fits, with_waiting, queue, fresh_session}
use Rattle.kom_model.specs.Db.{Db}
use Rattle.kom_model.specs.State.{State, IsSound, IsInOrder, IsSeated, AreSeated, seats_of}
use Rattle.kom_model.specs.Sending.{Delivery}
use Rattle.kom_model.specs.Decide.{asked_in}
use Rattle.kom_model.specs.After.{moment_of, deliveries, decision_at, carry_out, after_act, HasUser}
use Rattle.kom_model.specs.Effects.{apply_all, IsProtected}
use Rattle.kom_model.specs.After.{after_sending, after, queue_all, with_session}
use Rattle.kom_model.specs.Legal.{IsLegal, state_after}
use Rattle.kom_model.specs.Whole.{IsWhole}
use Rattle.kom_model.proofs.Order.{IsInOrder-drop, IsInOrder-append}
use Rattle.kom_model.proofs.Keeping.{KeepsRows, KeepsRows-changed, KeepsRows-weaken, KeepsOrder}
use Rattle.kom_model.proofs.Keeping.{AllOrdered, ordered-kept}
use Rattle.kom_model.proofs.Numbers.{drawn-kept, apart-kept, drawn-added, apart-added}
use Rattle.kom_model.proofs.Numbers.{drawn-filtered, apart-filtered}
use Rattle.kom_model.proofs.Queueing.{Grows, queue_all-rows, queue_all-grows}
use Rattle.kom_model.proofs.Protection.{IsProtected-apply_all}
use Rattle.kom_model.proofs.Changing.{Stays, make_changes-stay, make_changes-rows}
use Rattle.kom_model.proofs.Seating.{Carries, carried-seated, seats-of, of-seats}
use Rattle.kom_model.proofs.Leaving.{decision-carries}
use Rattle.kom_model.proofs.whole.Counts.{all-kept, all-more}
use Rattle.kom_model.proofs.whole.Effects.{effects-whole}

-- rows that keep their numbers and their order, beside numbers that fit
pub IsSound-kept : (state state' : State) →
    KeepsRows (KeepsOrder state.entries state'.entries) state.sessions state'.sessions →
    state'.connects ≡ state.connects → AreSeated state'.db (seats_of state') → state'.stable ≤ state'.entries →
    IsProtected state'.db → IsWhole state'.db → IsSound state → IsSound state'
IsSound-kept state state' kept connects seated stable protected whole sound =
    let order : List Waiting → List Waiting → Type 0 = KeepsOrder state.entries state'.entries in
    record {
      drawn = rw connects (drawn-kept order state.connects state.sessions state'.sessions kept sound.drawn);
      distinct = apart-kept order state.sessions state'.sessions kept sound.distinct;
      ordered = ordered-kept state.entries state'.entries state.sessions state'.sessions kept sound.ordered;
      seated = seated;
      stable = stable;
      protected = protected;
      whole = whole;
    }

ordered-added : (entries : ℕ) (row : Session) → row.waiting ≡ [] → (rows : List Session) → AllOrdered entries rows →
    AllOrdered entries (rows ++ row ∷ [])
ordered-added entries row none [] all = (rw none (tt, tt), tt)
ordered-added entries row none (first ∷ rows) all = (all.0, ordered-added entries row none rows all.1)

ordered-filtered : (entries : ℕ) (keep : Session → Bool) (rows : List Session) → AllOrdered entries rows →
    AllOrdered entries (filter keep rows)
ordered-filtered entries keep [] all = tt
ordered-filtered entries keep (row ∷ rows) all =
    let rest : AllOrdered entries (filter keep rows) = ordered-filtered entries keep rows all.1 in
    elim (keep row) as (λ b. AllOrdered entries (cond b (row ∷ filter keep rows) (filter keep rows))) [
      | true ↦ (all.0, rest)
      | false ↦ rest
    ]

seated-filtered : (db : Db) (keep : Session → Bool) (rows : List Session) →
    AreSeated db (map (λ row. row.seat) rows) → AreSeated db (map (λ row. row.seat) (filter keep rows))
seated-filtered db keep rows seated = seats-of (IsSeated db) (filter keep rows)
    (all-kept (λ row. IsSeated db row.seat) keep rows (of-seats (IsSeated db) rows seated))

seated-added : (db : Db) (rows : List Session) (row : Session) → IsSeated db row.seat →
    AreSeated db (map (λ row. row.seat) rows) → AreSeated db (map (λ row. row.seat) (rows ++ row ∷ []))
seated-added db rows row here seated = seats-of (IsSeated db) (rows ++ row ∷ [])
    (all-more (λ row. IsSeated db row.seat) rows row (of-seats (IsSeated db) rows seated) here)

-- a change of sessions that leaves their seats
same-seats : (number : ℕ) (change : Session → Session) → ((row : Session) → (change row).seat ≡ row.seat) →
    (rows : List Session) →
    map (λ row. row.seat) (map (λ row. cond (is_session number row) (change row) row) rows) ≡ map (λ row. row.seat) rows
same-seats number change keeps [] = refl
same-seats number change keeps (row ∷ rows) =
    ap₂ (λ (first : Seat) (rest : List Seat). first ∷ rest)
    (cond_both (is_session number row) (change row) row (λ (one : Session). one.seat ≡ row.seat)
    (λ _. keeps row) (λ _. refl)) (same-seats number change keeps rows)

queued-seat : (limits : Limits) (place : ℕ) (item : Item) (row : Session) →
    (queue limits place item row).seat ≡ row.seat
queued-seat limits place item row =
    cond_both row.overrun row
    (cond (fits limits row.waiting item) (with_waiting item place row) (record row { overrun = true }))
    (λ (one : Session). one.seat ≡ row.seat) (λ _. refl)
    (λ _. cond_both (fits limits row.waiting item) (with_waiting item place row) (record row { overrun = true })
    (λ (one : Session). one.seat ≡ row.seat) (λ _. refl) (λ _. refl))

queue_all-seats : (limits : Limits) (deliveries : List Delivery) (state : State) →
    seats_of (queue_all limits deliveries state) ≡ seats_of state
queue_all-seats limits [] state = refl
queue_all-seats limits (delivery ∷ deliveries) state =
    queue_all-seats limits deliveries (with_session delivery.session (queue limits state.entries delivery.item) state)
    ∙ same-seats delivery.session (queue limits state.entries delivery.item)
    (queued-seat limits state.entries delivery.item) state.sessions

-- the changes of a call
IsSound-carry_out : (moment : ℕ) (decision : Decision) (state : State) →
    Carries state.db (seats_of state) decision → IsSound state → IsSound (carry_out moment decision state)
IsSound-carry_out moment decision state carries sound =
    let start : State = record state { db = apply_all decision.effects state.db } in
    let end : State = carry_out moment decision state in
    let rows = make_changes-rows moment decision.changes start in
    let entries : end.entries ≡ state.entries = ap (λ s. s.entries) rows in
    let connects : end.connects ≡ state.connects = ap (λ s. s.connects) rows in
    let stable : end.stable ≡ state.stable = ap (λ s. s.stable) rows in
    IsSound-kept state end
    (KeepsRows-weaken Stays (KeepsOrder state.entries end.entries)
    (λ w w' same order. rw (entries, same) order) state.sessions end.sessions
    (make_changes-stay moment decision.changes start))
    connects (carried-seated moment decision state carries sound.seated)
    (omega (arith, stable, entries, sound.stable))
    (subst IsProtected (sym (ap (λ s. s.db) rows))
    (IsProtected-apply_all decision.effects state.db sound.protected))
    (subst IsWhole (sym (ap (λ s. s.db) rows)) (effects-whole decision.effects state.db sound.whole)) sound

acted_step : (state : State) (pass moment : ℕ) (what : Act) (session : ℕ) (short : Bool) → HasUser what →
    IsSound state → IsSound (after_act state (record {
      entry = record { pass = pass; moment = moment; act = what };
      session = session;
      short = short;
    }))
acted_step state pass moment (act.Connect user host) session short has sound = record {
  drawn = drawn-added state.connects _ refl state.sessions sound.drawn;
  distinct = apart-added state.connects _ refl state.sessions sound.drawn sound.distinct;
  ordered = ordered-added state.entries _ refl state.sessions sound.ordered;
  seated = seated-added state.db state.sessions
      (fresh_session (state.connects + 1) pass user host (moment_of state moment))
      (record { person = refl; user = has }) sound.seated;
  stable = sound.stable;
  protected = sound.protected;
  whole = sound.whole;
}
acted_step state pass moment (act.Call number reference call) session true has sound = sound
acted_step state pass moment (act.Call number reference call) session false has sound =
    IsSound-carry_out (moment_of state moment) (decision_at state moment number reference call) state
    (decision-carries (asked_in state (moment_of state moment) number reference) call) sound
acted_step state pass moment (act.Broken number) session short has sound = sound
acted_step state pass moment (act.Drain number) session short has sound =
    IsSound-kept state _
    (KeepsRows-changed (KeepsOrder state.entries state.entries) (λ w order. order) number (after_drain state.stable)
    (λ row. (refl, IsInOrder-drop (drained_count state.stable row.waiting) state.entries row.waiting))
    state.sessions)
    refl
    (subst (AreSeated state.db) (sym (same-seats number (after_drain state.stable) (λ row. refl) state.sessions))
    sound.seated)
    sound.stable sound.protected sound.whole sound
acted_step state pass moment act.Flush session true has sound = record {
  drawn = sound.drawn;
  distinct = sound.distinct;
  ordered = sound.ordered;
  seated = sound.seated;
  stable = sound.stable;
  protected = sound.protected;
  whole = sound.whole;
}
acted_step state pass moment act.Flush session false has sound = record {
  drawn = sound.drawn;
  distinct = sound.distinct;
  ordered = sound.ordered;
  seated = sound.seated;
  stable = omega arith;
  protected = sound.protected;
  whole = sound.whole;
}
acted_step state pass moment (act.Close number) session short has sound = record {
  drawn = drawn-filtered state.connects _ state.sessions sound.drawn;
  distinct = apart-filtered _ state.sessions sound.distinct;
  ordered = ordered-filtered state.entries _ state.sessions sound.ordered;
  seated = seated-filtered state.db _ state.sessions sound.seated;
  stable = sound.stable;
  protected = sound.protected;
  whole = sound.whole;
}

-- what an act changes
pub IsSound-acted : (state : State) (made : Record) → HasUser made.entry.act → IsSound state →
    IsSound (after_act state made)
IsSound-acted state made has sound =
    acted_step state made.entry.pass made.entry.moment made.entry.act made.session made.short has sound

entries_step : (state : State) (pass moment : ℕ) (what : Act) (session : ℕ) (short : Bool) →
    (after_act state (record {
      entry = record { pass = pass; moment = moment; act = what };
      session = session;
      short = short;
    })).entries ≡ state.entries
entries_step state pass moment (act.Connect user host) session short = refl
entries_step state pass moment (act.Call number reference call) session true = refl
entries_step state pass moment (act.Call number reference call) session false =
    let decision : Decision = decision_at state moment number reference call in
    ap (λ s. s.entries) (make_changes-rows (moment_of state moment) decision.changes
    (record state { db = apply_all decision.effects state.db }))
entries_step state pass moment (act.Broken number) session short = refl
entries_step state pass moment (act.Drain number) session short = refl
entries_step state pass moment act.Flush session true = refl
entries_step state pass moment act.Flush session false = refl
entries_step state pass moment (act.Close number) session short = refl

-- the entry is added after what an act changes
pub entries-acted : (state : State) (made : Record) → (after_act state made).entries ≡ state.entries
entries-acted state made = entries_step state made.entry.pass made.entry.moment made.entry.act made.session made.short

-- what an act sends is queued by its own entry
pub sent-grows : (state : State) (made : Record) →
    KeepsRows (Grows state.entries) (after_act state made).sessions (after_sending state made).sessions
sent-grows state made = subst
    (λ place. KeepsRows (Grows place) (after_act state made).sessions (after_sending state made).sessions)
    (entries-acted state made) (queue_all-grows waiting_limits (deliveries state made) (after_act state made))

grown-ordered : (entries : ℕ) (waiting waiting' : List Waiting) → Grows entries waiting waiting' →
    KeepsOrder entries (entries + 1) waiting waiting'
grown-ordered entries waiting waiting' grows order =
    subst (IsInOrder (entries + 1)) grows.1 (IsInOrder-append entries waiting grows.0 order grows.2)

-- a record keeps a sound state sound
pub IsSound-after : (state : State) (made : Record) → HasUser made.entry.act → IsSound state →
    IsSound (after state made)
IsSound-after state made has sound =
    let middle : State = after_act state made in
    let end : State = after state made in
    let rows = queue_all-rows waiting_limits (deliveries state made) middle in
    let entries : middle.entries ≡ state.entries = entries-acted state made in
    let connects : end.connects ≡ middle.connects = ap (λ s. s.connects) rows in
    let stable : end.stable ≡ middle.stable = ap (λ s. s.stable) rows in
    let db : end.db ≡ middle.db = ap (λ s. s.db) rows in
    let between : IsSound middle = IsSound-acted state made has sound in
    IsSound-kept middle end
    (KeepsRows-weaken (Grows state.entries) (KeepsOrder middle.entries end.entries)
    (λ w w' grows. rw entries (grown-ordered state.entries w w' grows))
    middle.sessions end.sessions (sent-grows state made))
    connects
    (subst (λ (db : Db). AreSeated db (seats_of end)) (sym db)
    (subst (AreSeated middle.db) (sym (queue_all-seats waiting_limits (deliveries state made) middle)) between.seated))
    (omega (arith, stable, entries, between.stable))
    (subst IsProtected (sym db) between.protected) (subst IsWhole (sym db) between.whole) between

-- so does a legal history
pub IsSound-state_after : (state : State) (history : List Record) → IsLegal state history → IsSound state →
    IsSound (state_after state history)
IsSound-state_after state [] legal sound = sound
IsSound-state_after state (made ∷ history) legal sound =
    IsSound-state_after (after state made) history legal.1 (IsSound-after state made legal.0.user sound)
