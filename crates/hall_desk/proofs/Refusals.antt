-- What a refusal tells of the history.
use Rattle.std.proofs.Common.{◌≡◌, ℕ, ◌+◌, ◌^◌, ◌≤◌, ◌⊎◌, inl, inr, Bool, true, false, ltb, ◌&&◌, ◌||◌, List, [], Some}
use Rattle.std.proofs.Common.{None, refl, sym, ap, subst, ◌∙◌, arith, append-nil}
use Rattle.std.specs.Prelude.{Err, ⊤}
use Rattle.std.proofs.lemmas.Bool.{cases_Bool, ltb-false, le-leb}
use Rattle.kom_types.specs.declared.limits.TheConstants.{MOST_SESSIONS}
use Rattle.kom_types.specs.declared.acts.Act.{Act}
use Rattle.kom_types.specs.declared.acts.Act.TheVariants as act
use Rattle.kom_types.specs.declared.acts.Entry.{Entry}
use Rattle.kom_types.specs.declared.acts.Record.{Record}
use Rattle.kom_types.specs.declared.answers.NotMade.TheVariants.{Gone, Full}
use Rattle.kom_types.specs.declared.answers.Why.{Why}
use Rattle.kom_types.specs.declared.answers.Why.TheVariants as why
use Rattle.kom_types.specs.declared.calls.Call.{Call}
use Rattle.kom_types.specs.declared.items.Item.{Item}
use Rattle.kom_types.specs.Sessions.{Session}
use Rattle.kom_types.specs.declared.answers.NotMade.{NotMade}
use Rattle.kom_types.specs.declared.answers.NotMade.TheVariants as fault
use Rattle.kom_links.specs.DeskCalls.{IsConnectFault, IsActFault, IsFlushFault, IsLockFault, is_lock_full}
use Rattle.kom_links.specs.Records.{IsOpen}
use Rattle.kom_model.specs.State.{State, session_of}
use Rattle.kom_model.specs.Refusal.{is_drained, call_refused, drain_refused, close_refused}
use Rattle.kom_model.specs.Refusal.{connect_refused, unless_store_refused, refusal_of}
use Rattle.kom_model.specs.Legal.{IsLegal, state_after}
use Rattle.hall_desk.specs.Passes.{PassView, connects_in}
use Rattle.hall_desk.specs.Desks.{WasStopped, IsKnown}
use Rattle.hall_desk.specs.Turns.{IsOfOpen, Sees, LogsNone, HasNoTurn, Ends, AnswersStopped}
use Rattle.kom_model.specs.Making.{IsConnect}
use Rattle.hall_desk.proofs.Starting.{IsStart}
use Rattle.hall_desk.proofs.Stepping.{Has}
use Rattle.hall_desk.proofs.Histories.{and_both, or_second, open_has, connects-state_after, connects_within}

-- A fault of an act of this kind that a history tells of, known at a session.
record IsTold (start : State) (P : NotMade → Type 0) (history : List Record) (drawn session : ℕ)
    (one : NotMade) : Type 0 where
  pub may : P one
  pub known : IsKnown start history drawn session (Some one)
  pub no_lock : is_lock_full {X = ⊤} (Err one) ≡ false

-- The same of a call of a desk, by what its pass knows then.
pub record IsTurnTold (start : State) (P : NotMade → Type 0) (old new : PassView) (session : ℕ)
    (one : NotMade) : Type 0 where
  pub may : P one
  pub known : IsKnown start new.seen new.drawn session (Some one)
  pub lock : new.waits ≡ (old.waits || is_lock_full {X = ⊤} (Err one))

-- the lock is told by the fault alone
pub lock_any : (X : Type 0) (one : NotMade) → is_lock_full {X = X} (Err one) ≡ is_lock_full {X = ⊤} (Err one)
lock_any X fault.Memory = refl
lock_any X (fault.Full number) = refl
lock_any X (fault.Gone told) = refl

-- ---- at a session that is open

-- what refuses an act of a session that stands
abbrev Causes : Bool → Bool → Session → Why → Type 0
Causes refused stopped row told = ((told ≡ why.Stopped) × ((stopped ≡ true) ⊎ (refused ≡ true)))
    ⊎ (((told ≡ why.Dropped) × (row.seat.ended ≡ true)) ⊎ ((told ≡ why.Overrun) × (row.overrun ≡ true)))

gone_same : (one two : Why) → Some (Gone one) ≡ Some (Gone two) → two ≡ one
gone_same one two e = cc

call_causes : (refused stopped : Bool) (row : Session) (told : Why) →
    unless_store_refused refused (call_refused stopped (Some row)) ≡ Some (Gone told) → Causes refused stopped row told
call_causes true stopped row told is = inl (gone_same _ _ is, inr refl)
call_causes false stopped row told is = elim (cases_Bool row.seat.ended) [
  | inl ended ↦ inr (inl (gone_same why.Dropped told (rw ended at is), ended))
  | inr stays ↦ elim (cases_Bool row.overrun) [
    | inl over ↦ inr (inr (gone_same why.Overrun told (rw over at (rw stays at is)), over))
    | inr fits ↦ elim (cases_Bool stopped) [
      | inl at_rest ↦ inl (gone_same why.Stopped told (rw at_rest at (rw fits at (rw stays at is))), inl at_rest)
      | inr runs ↦ let wrong : None ≡ Some (Gone told) = rw runs at (rw fits at (rw stays at is)) in cc
    ]
  ]
]

call_never_full : (refused stopped : Bool) (row : Session) (number : ℕ) →
    unless_store_refused refused (call_refused stopped (Some row)) ≡ Some (Full number) → ⊥
call_never_full true stopped row number is = cc
call_never_full false stopped row number is = elim (cases_Bool row.seat.ended) [
  | inl ended ↦ let wrong : Some (Gone why.Dropped) ≡ Some (Full number) = rw ended at is in cc
  | inr stays ↦ elim (cases_Bool row.overrun) [
    | inl over ↦ let wrong : Some (Gone why.Overrun) ≡ Some (Full number) = rw over at (rw stays at is) in cc
    | inr fits ↦ elim (cases_Bool stopped) [
      | inl at_rest ↦
          let wrong : Some (Gone why.Stopped) ≡ Some (Full number) = rw at_rest at (rw fits at (rw stays at is)) in cc
      | inr runs ↦ let wrong : None ≡ Some (Full number) = rw runs at (rw fits at (rw stays at is)) in cc
    ]
  ]
]

drain_causes : (refused stopped : Bool) (row : Session) (told : Why) →
    unless_store_refused refused (drain_refused (Some row)) ≡ Some (Gone told) → Causes refused stopped row told
drain_causes true stopped row told is = inl (gone_same _ _ is, inr refl)
drain_causes false stopped row told is = elim (cases_Bool (row.seat.ended && is_drained row)) [
  | inl ended ↦
      inr (inl (gone_same why.Dropped told (rw ended at is), (and_both row.seat.ended (is_drained row) ended).0))
  | inr stays ↦ elim (cases_Bool row.overrun) [
    | inl over ↦ inr (inr (gone_same why.Overrun told (rw over at (rw stays at is)), over))
    | inr fits ↦ let wrong : None ≡ Some (Gone told) = rw fits at (rw stays at is) in cc
  ]
]

drain_never_full : (refused : Bool) (row : Session) (number : ℕ) →
    unless_store_refused refused (drain_refused (Some row)) ≡ Some (Full number) → ⊥
drain_never_full true row number is = cc
drain_never_full false row number is = elim (cases_Bool (row.seat.ended && is_drained row)) [
  | inl ended ↦ let wrong : Some (Gone why.Dropped) ≡ Some (Full number) = rw ended at is in cc
  | inr stays ↦ elim (cases_Bool row.overrun) [
    | inl over ↦ let wrong : Some (Gone why.Overrun) ≡ Some (Full number) = rw over at (rw stays at is) in cc
    | inr fits ↦ let wrong : None ≡ Some (Full number) = rw fits at (rw stays at is) in cc
  ]
]

connect_causes : (refused stopped : Bool) (connects : ℕ) (told : Why) →
    unless_store_refused refused (connect_refused stopped connects) ≡ Some (Gone told) →
    (told ≡ why.Stopped) × ((stopped ≡ true) ⊎ (refused ≡ true))
connect_causes true stopped connects told is = (gone_same _ _ is, inr refl)
connect_causes false true connects told is = (gone_same _ _ is, inl refl)
connect_causes false false connects told is = elim (cases_Bool (ltb connects MOST_SESSIONS)) [
  | inl less ↦ let wrong : None ≡ Some (Gone told) = rw less at is in cc
  | inr more ↦ let wrong : Some (Full connects) ≡ Some (Gone told) = rw more at is in cc
]

connect_full : (refused stopped : Bool) (connects number : ℕ) →
    unless_store_refused refused (connect_refused stopped connects) ≡ Some (Full number) →
    (number ≡ connects) × (MOST_SESSIONS ≤ connects)
connect_full true stopped connects number is = cc
connect_full false true connects number is = cc
connect_full false false connects number is = elim (cases_Bool (ltb connects MOST_SESSIONS)) [
  | inl less ↦ let wrong : None ≡ Some (Full number) = rw less at is in cc
  | inr more ↦
      let full : Some (Full connects) ≡ Some (Full number) = rw more at is in
      (let same : number ≡ connects = cc in same, ltb-false _ _ more)
]

-- ---- in a history that begins in this state

module _ (start : State) where
  pub stopped_now : (history : List Record) →
      ((state_after start history).stopped ≡ true) ⊎ ((state_after start history).store_refused ≡ true) →
      WasStopped start history
  stopped_now history is = (history, [], sym (append-nil history), is)

  causes_told : (history : List Record) (drawn session : ℕ) (row : Session) (told : Why) →
      session_of session (state_after start history) ≡ Some row →
      Causes (state_after start history).store_refused (state_after start history).stopped row told →
      IsTold start IsActFault history drawn session (fault.Gone told)
  causes_told history drawn session row told found (inl stopped) =
      subst (λ told. IsTold start IsActFault history drawn session (fault.Gone told)) (sym stopped.0)
      (record { may = tt; known = stopped_now history stopped.1; no_lock = refl })
  causes_told history drawn session row told found (inr (inl dropped)) =
      subst (λ told. IsTold start IsActFault history drawn session (fault.Gone told)) (sym dropped.0)
      (record { may = tt; known = (history, [], row, sym (append-nil history), found, dropped.1); no_lock = refl })
  causes_told history drawn session row told found (inr (inr overrun)) =
      subst (λ told. IsTold start IsActFault history drawn session (fault.Gone told)) (sym overrun.0)
      (record { may = tt; known = (history, [], row, sym (append-nil history), found, overrun.1); no_lock = refl })

  stopped_told : (P : NotMade → Type 0) (history : List Record) (drawn session : ℕ) (told : Why) →
      P (fault.Gone why.Stopped) → told ≡ why.Stopped →
      ((state_after start history).stopped ≡ true) ⊎ ((state_after start history).store_refused ≡ true) →
      IsTold start P history drawn session (fault.Gone told)
  stopped_told P history drawn session told may same stopped =
      subst (λ told. IsTold start P history drawn session (fault.Gone told)) (sym same)
      (record { may = may; known = stopped_now history stopped; no_lock = refl })

  -- ---- by how an act ended

  no_turn_told : (P : NotMade → Type 0) (old new : PassView) (session ticket : ℕ) → HasNoTurn old new ticket →
      P (fault.Full ticket) → IsTurnTold start P old new session (fault.Full ticket)
  no_turn_told P old new session ticket none may = record {
    may = may;
    known = inr (none.large, none.below);
    lock = none.waits ∙ sym (or_second old.waits (is_lock_full {X = ⊤} (Err (fault.Full ticket)))
        (le-leb (2 ^ 62) ticket none.large));
  }

  refused_told : (P : NotMade → Type 0) (old new : PassView) (history : List Record) (session : ℕ)
      (one : NotMade) → Sees start old new history → LogsNone old new history →
      IsTold start P history new.drawn session one → IsTurnTold start P old new session one
  refused_told P old new history session one sees logs told = record {
    may = told.may;
    known = subst (λ (seen : List Record). IsKnown start seen new.drawn session (Some one)) (sym logs.seen) told.known;
    lock = sees.rests ∙ sym told.no_lock
        ∙ ap (λ b. b || is_lock_full {X = ⊤} (Err one)) (sym sees.rested);
  }

  ended_told : (P : NotMade → Type 0) (old new : PassView) (entry : Entry) (items : List Item) (session : ℕ)
      (one : NotMade) → ((ticket : ℕ) → 2 ^ 62 ≤ ticket → P (fault.Full ticket)) →
      (IsConnect entry.act → P fault.Memory) →
      ((history : List Record) (told : Why) → Sees start old new history →
      refusal_of (state_after start history) entry.act ≡ Some (Gone told) →
      IsTold start P history new.drawn session (fault.Gone told)) →
      ((history : List Record) (number : ℕ) → Sees start old new history →
      refusal_of (state_after start history) entry.act ≡ Some (Full number) →
      IsTold start P history new.drawn session (fault.Full number)) →
      Ends start old new entry items (Err one) → IsTurnTold start P old new session one
  ended_told P old new entry items session fault.Memory full memory gone many ((history, sees, logs, is), connect) =
      refused_told P old new history session fault.Memory sees logs
      (record { may = memory connect; known = tt; no_lock = refl })
  ended_told P old new entry items session (fault.Gone told) full memory gone many (history, sees, logs, is) =
      refused_told P old new history session (fault.Gone told) sees logs (gone history told sees is)
  ended_told P old new entry items session (fault.Full number) full memory gone many (inl none) =
      no_turn_told P old new session number none (full number none.large)
  ended_told P old new entry items session (fault.Full number) full memory gone many (inr (history, sees, logs, is)) =
      refused_told P old new history session (fault.Full number) sees logs (many history number sees is)

  -- ---- at a session that the pass has open

  has_open : IsStart start → (old new : PassView) (history : List Record) (session : ℕ) →
      Sees start old new history → IsOpen session old.mine → Has session old.number (state_after start history)
  has_open begins old new history session sees is_open =
      open_has start begins.drawn session old.number history sees.legal sees.owned
      (subst (λ (mine : List Record). IsOpen session mine) sees.own is_open)

  call_told : IsStart start → (old new : PassView) (pass moment session reference : ℕ) (call : Call)
      (items : List Item) (one : NotMade) → IsOpen session old.mine →
      Ends start old new (record { pass = pass; moment = moment; act = act.Call session reference call }) items
      (Err one) → IsTurnTold start IsActFault old new session one
  call_told begins old new pass moment session reference call items one is_open ends =
      ended_told IsActFault old new
      (record { pass = pass; moment = moment; act = act.Call session reference call })
      items session one (λ ticket large. large) (λ wrong. absurd wrong)
      (λ history told sees is.
      let has = has_open begins old new history session sees is_open in
      let state : State = state_after start history in
      causes_told history new.drawn session has.0 told has.1 (call_causes state.store_refused state.stopped has.0 told
      (subst (λ row.
      unless_store_refused state.store_refused (call_refused state.stopped row) ≡ Some (Gone told)) has.1 is)))
      (λ history number sees is.
      let has = has_open begins old new history session sees is_open in
      let state : State = state_after start history in
      absurd (call_never_full state.store_refused state.stopped has.0 number
      (subst (λ row.
      unless_store_refused state.store_refused (call_refused state.stopped row) ≡ Some (Full number)) has.1 is)))
      ends

  broken_told : IsStart start → (old new : PassView) (pass moment session : ℕ) (items : List Item)
      (one : NotMade) → IsOpen session old.mine →
      Ends start old new (record { pass = pass; moment = moment; act = act.Broken session }) items (Err one) →
      IsTurnTold start IsActFault old new session one
  broken_told begins old new pass moment session items one is_open ends =
      ended_told IsActFault old new
      (record { pass = pass; moment = moment; act = act.Broken session })
      items session one (λ ticket large. large) (λ wrong. absurd wrong)
      (λ history told sees is.
      let has = has_open begins old new history session sees is_open in
      let state : State = state_after start history in
      causes_told history new.drawn session has.0 told has.1 (call_causes state.store_refused state.stopped has.0 told
      (subst (λ row.
      unless_store_refused state.store_refused (call_refused state.stopped row) ≡ Some (Gone told)) has.1 is)))
      (λ history number sees is.
      let has = has_open begins old new history session sees is_open in
      let state : State = state_after start history in
      absurd (call_never_full state.store_refused state.stopped has.0 number
      (subst (λ row.
      unless_store_refused state.store_refused (call_refused state.stopped row) ≡ Some (Full number)) has.1 is)))
      ends

  drain_told : IsStart start → (old new : PassView) (pass moment session : ℕ) (items : List Item)
      (one : NotMade) → IsOpen session old.mine →
      Ends start old new (record { pass = pass; moment = moment; act = act.Drain session }) items (Err one) →
      IsTurnTold start IsActFault old new session one
  drain_told begins old new pass moment session items one is_open ends =
      ended_told IsActFault old new
      (record { pass = pass; moment = moment; act = act.Drain session })
      items session one (λ ticket large. large) (λ wrong. absurd wrong)
      (λ history told sees is.
      let has = has_open begins old new history session sees is_open in
      let state : State = state_after start history in
      causes_told history new.drawn session has.0 told has.1 (drain_causes state.store_refused state.stopped has.0 told
      (subst (λ row.
      unless_store_refused state.store_refused (drain_refused row) ≡ Some (Gone told)) has.1 is)))
      (λ history number sees is.
      let has = has_open begins old new history session sees is_open in
      let state : State = state_after start history in
      absurd (drain_never_full state.store_refused has.0 number
      (subst (λ row.
      unless_store_refused state.store_refused (drain_refused row) ≡ Some (Full number)) has.1 is)))
      ends

  close_told : IsStart start → (old new : PassView) (pass moment session : ℕ) (items : List Item)
      (one : NotMade) → IsOpen session old.mine →
      Ends start old new (record { pass = pass; moment = moment; act = act.Close session }) items (Err one) →
      IsTurnTold start IsLockFault old new session one
  close_told begins old new pass moment session items one is_open ends =
      ended_told IsLockFault old new
      (record { pass = pass; moment = moment; act = act.Close session })
      items session one (λ ticket large. large) (λ wrong. absurd wrong)
      (λ history told sees is.
      let has = has_open begins old new history session sees is_open in
      let wrong : None ≡ Some (Gone told) = subst (λ row. close_refused row ≡ Some (Gone told)) has.1 is in
      cc)
      (λ history number sees is.
      let has = has_open begins old new history session sees is_open in
      let wrong : None ≡ Some (Full number) = subst (λ row. close_refused row ≡ Some (Full number)) has.1 is in
      cc)
      ends

  -- ---- of no session

  flush_told : (old new : PassView) (pass moment : ℕ) (items : List Item) (session : ℕ) (one : NotMade) →
      Ends start old new (record { pass = pass; moment = moment; act = act.Flush }) items (Err one) →
      IsTurnTold start IsFlushFault old new session one
  flush_told old new pass moment items session one ends =
      ended_told IsFlushFault old new
      (record { pass = pass; moment = moment; act = act.Flush })
      items session one (λ ticket large. large) (λ wrong. absurd wrong)
      (λ history told sees is.
      elim (cases_Bool (state_after start history).store_refused) [
        | inl refused ↦ stopped_told IsFlushFault history new.drawn session told tt
            (gone_same why.Stopped told (rw refused at is)) (inr refused)
        | inr takes ↦ let wrong : None ≡ Some (Gone told) = rw takes at is in cc
      ])
      (λ history number sees is.
      elim (cases_Bool (state_after start history).store_refused) [
        | inl refused ↦ let wrong : Some (Gone why.Stopped) ≡ Some (Full number) = rw refused at is in cc
        | inr takes ↦ let wrong : None ≡ Some (Full number) = rw takes at is in cc
      ])
      ends

  connect_many : IsStart start → (history : List Record) (drawn number : ℕ) → IsLegal start history →
      refusal_of (state_after start history) (act.Connect [] []) ≡ Some (Full number) →
      IsTold start IsConnectFault history drawn 0 (fault.Full number)
  connect_many begins history drawn number legal is =
      let state : State = state_after start history in
      let full = connect_full state.store_refused state.stopped state.connects number is in
      let within : state.connects ≤ MOST_SESSIONS =
      connects_within start history legal (omega (arith, begins.connects)) in
      let counted : state.connects ≡ start.connects + connects_in history = connects-state_after start history in
      let none_yet : start.connects ≡ 0 = begins.connects in
      let all : number ≡ MOST_SESSIONS = omega (arith, full.0, full.1) in
      record {
        may = inl all;
        known = inl (all, omega (arith, full.0, full.1));
        no_lock = rw all refl;
      }

  connect_told : IsStart start → (old new : PassView) (pass moment : ℕ) (user host : List ℕ) (items : List Item)
      (one : NotMade) →
      Ends start old new (record { pass = pass; moment = moment; act = act.Connect user host }) items (Err one) →
      IsTurnTold start IsConnectFault old new 0 one
  connect_told begins old new pass moment user host items one ends =
      ended_told IsConnectFault old new
      (record { pass = pass; moment = moment; act = act.Connect user host })
      items 0 one (λ ticket large. inr large) (λ connect. tt)
      (λ history told sees is.
      let state : State = state_after start history in
      let causes = connect_causes state.store_refused state.stopped state.connects told is in
      stopped_told IsConnectFault history new.drawn 0 told tt causes.0 causes.1)
      (λ history number sees is. connect_many begins history new.drawn number sees.legal is)
      ends

  -- whether the server is stopped
  pub ask_told : (old new : PassView) (session : ℕ) (one : NotMade) → AnswersStopped start old new (Err one) →
      IsTurnTold start IsLockFault old new session one
  ask_told old new session fault.Memory tells = absurd tells
  ask_told old new session (fault.Gone told) tells = absurd tells
  ask_told old new session (fault.Full number) tells =
      no_turn_told IsLockFault old new session number tells tells.large

-- ---- of any act

-- why it may be refused
abbrev pub MayRefuse : Act → NotMade → Type 0
MayRefuse (act.Connect user host) = IsConnectFault
MayRefuse (act.Call session reference call) = IsActFault
MayRefuse (act.Broken session) = IsActFault
MayRefuse (act.Drain session) = IsActFault
MayRefuse act.Flush = IsFlushFault
MayRefuse (act.Close session) = IsLockFault

-- its session before it, or 0
abbrev pub acting : Act → ℕ
acting (act.Connect user host) = 0
acting (act.Call session reference call) = session
acting (act.Broken session) = session
acting (act.Drain session) = session
acting act.Flush = 0
acting (act.Close session) = session

pub act_told : (start : State) → IsStart start → (old new : PassView) (pass moment : ℕ) (what : Act)
    (items : List Item) (one : NotMade) → IsOfOpen old.mine what →
    Ends start old new (record { pass = pass; moment = moment; act = what }) items (Err one) →
    IsTurnTold start (MayRefuse what) old new (acting what) one
act_told start begins old new pass moment (act.Connect user host) items one open' ends =
    connect_told start begins old new pass moment user host items one ends
act_told start begins old new pass moment (act.Call session reference call) items one open' ends =
    call_told start begins old new pass moment session reference call items one open' ends
act_told start begins old new pass moment (act.Broken session) items one open' ends =
    broken_told start begins old new pass moment session items one open' ends
act_told start begins old new pass moment (act.Drain session) items one open' ends =
    drain_told start begins old new pass moment session items one open' ends
act_told start begins old new pass moment act.Flush items one open' ends =
    flush_told start old new pass moment items 0 one ends
act_told start begins old new pass moment (act.Close session) items one open' ends =
    close_told start begins old new pass moment session items one open' ends
