-- A session that was closed is given nothing more.
use Rattle.std.proofs.Common.{◌≡◌, ℕ, ◌+◌, ◌≤◌, Bool, true, false, eqb, List, [], ◌∷◌, map, Option}
use Rattle.std.proofs.Common.{Some, None, refl, sym, ap, ◌∙◌, inl, inr, arith}
use Rattle.std.specs.List.{find}
use Rattle.std.specs.Option.{IsSome}
use Rattle.std.proofs.lemmas.Bool.{cases_eq, ne_eqb, eq-eqb}
use Rattle.kom_types.specs.declared.acts.Act.{Act}
use Rattle.kom_types.specs.declared.acts.Act.TheVariants as act
use Rattle.kom_types.specs.declared.acts.Record.{Record}
use Rattle.kom_types.specs.Sessions.{Session, waiting_limits, is_session, after_drain}
use Rattle.kom_model.specs.State.{State, IsSound, session_of}
use Rattle.kom_model.specs.After.{moment_of, decision_at, deliveries, after_act, after}
use Rattle.kom_model.specs.Effects.{apply_all}
use Rattle.kom_model.specs.After.{MayFollow}
use Rattle.kom_model.specs.Legal.{state_after}
use Rattle.kom_model.specs.Refusal.{close_refused}
use Rattle.kom_model.proofs.Finding.{changed_row, KeepsNumbers, find-changed_same}
use Rattle.kom_model.proofs.Finding.{find-changed_other, find-added_other, find-removed_same}
use Rattle.kom_model.proofs.Finding.{find-removed_other, drawn-found}
use Rattle.kom_model.proofs.Keeping.{absent-kept}
use Rattle.kom_model.proofs.Queueing.{Grows, queue_all-rows}
use Rattle.kom_model.proofs.Changing.{Stays, make_changes-stay, make_changes-rows}
use Rattle.kom_model.proofs.Soundness.{sent-grows}
use Rattle.kom_model.proofs.Moving.{Closes, taken_by}

-- a session that was drawn and is not there
pub record IsOver (n : ℕ) (state : State) : Type 0 where
  pub drawn : n ≤ state.connects
  pub absent : session_of n state ≡ None

absent_changed : (n number : ℕ) (change : Session → Session) → KeepsNumbers change → (rows : List Session) →
    find (is_session n) rows ≡ None → find (is_session n) (map (changed_row number change) rows) ≡ None
absent_changed n number change keeps rows none =
    elim (cases_eq n number) [
      | inl here ↦
          let gone : find (is_session number) rows ≡ None = rw here at none in
          rw (here, find-changed_same number change keeps rows, gone) refl
      | inr other ↦ rw (find-changed_other number n change keeps other rows) none
    ]

acted_step : (n : ℕ) (state : State) (pass moment : ℕ) (what : Act) (session : ℕ) (short : Bool) → IsOver n state →
    IsOver n (after_act state (record {
      entry = record { pass = pass; moment = moment; act = what };
      session = session;
      short = short;
    }))
acted_step n state pass moment (act.Connect user host) session short over = record {
  drawn = omega (arith, over.drawn);
  absent =
      let other : n ≡ state.connects + 1 → ⊥ = λ e. omega (arith, over.drawn) in
      find-added_other n _ other state.sessions ∙ over.absent;
}
acted_step n state pass moment (act.Call number reference call) session true over = over
acted_step n state pass moment (act.Call number reference call) session false over =
    let decision = decision_at state moment number reference call in
    let start : State = record state { db = apply_all decision.effects state.db } in
    let rows = make_changes-rows (moment_of state moment) decision.changes start in
    record {
      drawn = rw (ap (λ s. s.connects) rows) over.drawn;
      absent = absent-kept Stays n _ _ (make_changes-stay (moment_of state moment) decision.changes start) over.absent;
    }
acted_step n state pass moment (act.Broken number) session short over = over
acted_step n state pass moment (act.Drain number) session short over = record {
  drawn = over.drawn;
  absent = absent_changed n number (after_drain state.stable) (λ row. refl) state.sessions over.absent;
}
acted_step n state pass moment act.Flush session true over = record { drawn = over.drawn; absent = over.absent }
acted_step n state pass moment act.Flush session false over = record { drawn = over.drawn; absent = over.absent }
acted_step n state pass moment (act.Close number) session short over = record {
  drawn = over.drawn;
  absent = elim (cases_eq n number) [
    | inl here ↦ rw here (find-removed_same number state.sessions)
    | inr other ↦ rw (find-removed_other number n other state.sessions) over.absent
  ];
}

-- what an act sends brings no session back
over-sent : (n : ℕ) (state : State) (made : Record) → IsOver n (after_act state made) → IsOver n (after state made)
over-sent n state made over =
    let rows = queue_all-rows waiting_limits (deliveries state made) (after_act state made) in
    record {
      drawn = rw (ap (λ s. s.connects) rows) over.drawn;
      absent = absent-kept (Grows state.entries) n _ _ (sent-grows state made) over.absent;
    }

-- a session that is over stays so
pub IsOver-after : (n : ℕ) (state : State) (made : Record) → IsOver n state → IsOver n (after state made)
IsOver-after n state made over =
    over-sent n state made
    (acted_step n state made.entry.pass made.entry.moment made.entry.act made.session made.short over)

pub IsOver-state_after : (n : ℕ) (state : State) (history : List Record) → IsOver n state →
    IsOver n (state_after state history)
IsOver-state_after n state [] over = over
IsOver-state_after n state (made ∷ history) over =
    IsOver-state_after n (after state made) history (IsOver-after n state made over)

taken_step : (n : ℕ) (state : State) (pass moment : ℕ) (what : Act) (session : ℕ) (short : Bool) → IsOver n state →
    taken_by n state (record {
      entry = record { pass = pass; moment = moment; act = what };
      session = session;
      short = short;
    }) ≡ []
taken_step n state pass moment (act.Connect user host) session short over = refl
taken_step n state pass moment (act.Call number reference call) session short over = refl
taken_step n state pass moment (act.Broken number) session short over = refl
taken_step n state pass moment (act.Drain number) session short over =
    elim (cases_eq n number) [
      | inl here ↦
          let same : eqb number number ≡ true = eq-eqb _ _ refl in
          let none : session_of number state ≡ None = rw here at over.absent in
          rw (here, same, none) refl
      | inr other ↦
          let apart : eqb number n ≡ false = ne_eqb _ _ (λ e. other (sym e)) in
          rw apart refl
    ]
taken_step n state pass moment act.Flush session short over = refl
taken_step n state pass moment (act.Close number) session short over = refl

-- a session that is over is given nothing by a record
pub taken-over : (n : ℕ) (state : State) (made : Record) → IsOver n state → taken_by n state made ≡ []
taken-over n state made over =
    taken_step n state made.entry.pass made.entry.moment made.entry.act made.session made.short over

some-closed : (row : Option Session) → close_refused row ≡ None → IsSome row
some-closed None possible = cc
some-closed (Some row) possible = refl

closed_step : (n : ℕ) (state : State) (pass moment : ℕ) (what : Act) (session : ℕ) (short : Bool) → IsSound state →
    let made : Record = record {
      entry = record { pass = pass; moment = moment; act = what };
      session = session;
      short = short;
    } in
    MayFollow state made → Closes n what → IsOver n (after_act state made) × (taken_by n state made ≡ [])
closed_step n state pass moment (act.Connect user host) session short sound may closes = absurd closes
closed_step n state pass moment (act.Call number reference call) session short sound may closes = absurd closes
closed_step n state pass moment (act.Broken number) session short sound may closes = absurd closes
closed_step n state pass moment (act.Drain number) session short sound may closes = absurd closes
closed_step n state pass moment act.Flush session short sound may closes = absurd closes
closed_step n state pass moment (act.Close number) session short sound may closes =
    let some : IsSome (session_of number state) = some-closed (session_of number state) may.possible in (
      record {
        drawn = rw closes (drawn-found number state.connects state.sessions sound.drawn some);
        absent = rw closes (find-removed_same number state.sessions);
      },
      refl,
    )

-- a session that a record closes is over, and the record gives it nothing
pub closed-over : (n : ℕ) (state : State) (made : Record) → IsSound state → MayFollow state made →
    Closes n made.entry.act → IsOver n (after state made) × (taken_by n state made ≡ [])
closed-over n state made sound may closes =
    let closed =
    closed_step n state made.entry.pass made.entry.moment made.entry.act made.session made.short sound may closes in
    (over-sent n state made closed.0, closed.1)
