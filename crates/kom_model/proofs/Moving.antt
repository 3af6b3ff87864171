-- One record, and what it gives to a session and leaves waiting for it.
use Rattle.std.proofs.Common.{◌≡◌, ℕ, ◌==◌, ◌+◌, Bool, true, false, cond, eqb, List, [], ◌∷◌, ◌++◌}
use Rattle.std.proofs.Common.{length, map, drop, Option, Some, None, refl, sym, ap, ◌∙◌, inl, inr}
use Rattle.std.proofs.Common.{arith, append_assoc, if◌then◌else◌}
use Rattle.std.specs.List.{find}
use Rattle.std.specs.Option.{option_map}
use Rattle.std.proofs.lemmas.Bool.{cases_eq, ne_eqb, eq-eqb}
use Rattle.std.proofs.lemmas.List.{take-append-drop}
use Rattle.std.proofs.Math.Seq.{drop-append_seam}
use Rattle.kom_types.specs.declared.acts.Act.{Act}
use Rattle.kom_types.specs.declared.acts.Act.TheVariants as act
use Rattle.kom_types.specs.declared.acts.Record.{Record}
use Rattle.kom_types.specs.Sessions.{Waiting, Session, is_session, after_drain, drained_count}
use Rattle.kom_model.specs.State.{State, IsSound, session_of}
use Rattle.kom_model.specs.After.{moment_of, decision_at, after_act, after_sending, after}
use Rattle.kom_model.specs.Effects.{apply_all}
use Rattle.kom_model.specs.Out.{waiting_in, waiting_for, drained_from}
use Rattle.kom_model.proofs.Finding.{find-changed_same, find-changed_other, find-added_same}
use Rattle.kom_model.proofs.Finding.{find-added_other, find-removed_other, find-undrawn}
use Rattle.kom_model.proofs.Keeping.{waiting-kept}
use Rattle.kom_model.proofs.Queueing.{Grows}
use Rattle.kom_model.proofs.Changing.{Stays, make_changes-stay}
use Rattle.kom_model.proofs.Soundness.{sent-grows}

-- what a record takes of what waits for the session
abbrev pub taken_by : ℕ → State → Record → List Waiting
taken_by n state made = elim made.entry.act [
  | act.Connect user host ↦ []
  | act.Call session reference call ↦ []
  | act.Broken session ↦ []
  | act.Drain session ↦ if session == n then drained_from session state else []
  | act.Flush ↦ []
  | act.Close session ↦ []
]

-- what a record queues for the session
abbrev pub added_by : ℕ → State → Record → List Waiting
added_by n state made = drop (length (waiting_for n (after_act state made))) (waiting_for n (after_sending state made))

-- the act of a record closes this session
abbrev pub Closes : ℕ → Act → Type 0
Closes n (act.Connect user host) = ⊥
Closes n (act.Call session reference call) = ⊥
Closes n (act.Broken session) = ⊥
Closes n (act.Drain session) = ⊥
Closes n act.Flush = ⊥
Closes n (act.Close session) = n ≡ session

waiting-drained : (stable : ℕ) (row : Option Session) →
    waiting_in (option_map (after_drain stable) row) ≡ drop (drained_count stable (waiting_in row)) (waiting_in row)
waiting-drained stable None = refl
waiting-drained stable (Some row) = refl

connect_takes : (n : ℕ) (state : State) (row : Session) → row.seat.number ≡ state.connects + 1 → row.waiting ≡ [] →
    IsSound state → waiting_for n state ≡ waiting_in (find (is_session n) (state.sessions ++ row ∷ []))
connect_takes n state row drawn fresh sound =
    elim (cases_eq n row.seat.number) [
      | inl here ↦
          let none : find (is_session row.seat.number) state.sessions ≡ None =
          find-undrawn state.connects row.seat.number (λ below. omega arith) state.sessions sound.drawn in
          rw (here, none, find-added_same row state.sessions none, fresh) refl
      | inr other ↦ rw (find-added_other n row other state.sessions) refl
    ]

drain_takes : (n : ℕ) (state : State) (number : ℕ) →
    waiting_for n state
    ≡ cond (eqb number n) (drained_from number state) [] ++ waiting_for n (record state {
      sessions = map (λ row. if is_session number row then after_drain state.stable row else row) state.sessions;
    })
drain_takes n state number =
    elim (cases_eq n number) [
      | inl here ↦
          let same : eqb number number ≡ true = eq-eqb _ _ refl in
          let waiting : List Waiting = waiting_for number state in
          rw (
            here,
            same,
            find-changed_same number (after_drain state.stable) (λ row. refl) state.sessions,
            waiting-drained state.stable (session_of number state),
          )
          (sym (take-append-drop (drained_count state.stable waiting) waiting))
      | inr other ↦
          let apart : eqb number n ≡ false = ne_eqb _ _ (λ e. other (sym e)) in
          rw (apart, find-changed_other number n (after_drain state.stable) (λ row. refl) other state.sessions) refl
    ]

takes_step : (n : ℕ) (state : State) (pass moment : ℕ) (what : Act) (session : ℕ) (short : Bool) → IsSound state →
    (Closes n what → ⊥) →
    let made : Record = record {
      entry = record { pass = pass; moment = moment; act = what };
      session = session;
      short = short;
    } in
    waiting_for n state ≡ taken_by n state made ++ waiting_for n (after_act state made)
takes_step n state pass moment (act.Connect user host) session short sound stays =
    connect_takes n state _ refl refl sound
takes_step n state pass moment (act.Call number reference call) session true sound stays = refl
takes_step n state pass moment (act.Call number reference call) session false sound stays =
    let decision = decision_at state moment number reference call in
    let start : State = record state { db = apply_all decision.effects state.db } in
    sym (waiting-kept Stays refl n _ _ (make_changes-stay (moment_of state moment) decision.changes start))
takes_step n state pass moment (act.Broken number) session short sound stays = refl
takes_step n state pass moment (act.Drain number) session short sound stays = drain_takes n state number
takes_step n state pass moment act.Flush session true sound stays = refl
takes_step n state pass moment act.Flush session false sound stays = refl
takes_step n state pass moment (act.Close number) session short sound stays =
    rw (find-removed_other number n stays state.sessions) refl

-- an act that does not close the session leaves waiting for it what it does not take
acted-takes : (n : ℕ) (state : State) (made : Record) → IsSound state → (Closes n made.entry.act → ⊥) →
    waiting_for n state ≡ taken_by n state made ++ waiting_for n (after_act state made)
acted-takes n state made sound stays =
    takes_step n state made.entry.pass made.entry.moment made.entry.act made.session made.short sound stays

-- what an act sends is queued for the session after all that waits
sent-adds : (n : ℕ) (state : State) (made : Record) →
    waiting_for n (after state made) ≡ waiting_for n (after_act state made) ++ added_by n state made
sent-adds n state made =
    let before : List Waiting = waiting_for n (after_act state made) in
    let grows : Grows state.entries before (waiting_for n (after state made)) =
    waiting-kept (Grows state.entries) ([], refl, tt) n _ _ (sent-grows state made) in
    let more : added_by n state made ≡ grows.0 =
    ap (drop (length before)) (sym grows.1) ∙ drop-append_seam before grows.0 in
    sym grows.1 ∙ ap (λ w. before ++ w) (sym more)

-- A record moves what waits for a session on, and drops none of it.
pub record_moves : (n : ℕ) (state : State) (made : Record) → IsSound state → (Closes n made.entry.act → ⊥) →
    waiting_for n state ++ added_by n state made ≡ taken_by n state made ++ waiting_for n (after state made)
record_moves n state made sound stays =
    let taken : List Waiting = taken_by n state made in
    let added : List Waiting = added_by n state made in
    ap (λ w. w ++ added) (acted-takes n state made sound stays)
    ∙ append_assoc taken (waiting_for n (after_act state made)) added
    ∙ ap (λ w. taken ++ w) (sym (sent-adds n state made))
