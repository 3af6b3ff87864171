-- Why a desk answered as it did.
use Rattle.std.proofs.Common.{◌≡◌, ℕ, ◌+◌, ◌<◌, ◌≤◌, ◌^◌, ◌⊎◌, inl, inr, Bool, true, false, List, [], ◌∷◌, ◌++◌, Some}
use Rattle.std.proofs.Common.{refl}
use Rattle.std.proofs.Common.{sym, ap, subst, ◌∙◌, arith, append_assoc, append-nil, eqb}
use Rattle.std.specs.List.{AllByRecursion}
use Rattle.std.specs.Prelude.{Result, Ok, Err}
use Rattle.std.proofs.lemmas.Bool.{cases_Bool, eqb-true}
use Rattle.kom_types.specs.declared.limits.TheConstants.{MOST_SESSIONS}
use Rattle.kom_types.specs.declared.acts.Act.{Act}
use Rattle.kom_types.specs.declared.acts.Act.TheVariants as act
use Rattle.kom_types.specs.declared.acts.Record.{Record}
use Rattle.kom_types.specs.declared.answers.NotMade.TheVariants.{Gone}
use Rattle.kom_types.specs.declared.answers.Why.TheVariants as why
use Rattle.kom_types.specs.declared.items.Item.{Item}
use Rattle.kom_types.specs.Sessions.{Session}
use Rattle.kom_links.specs.declared.deeds.Deed.{Deed}
use Rattle.kom_links.specs.declared.deeds.Deed.TheVariants as deed
use Rattle.kom_types.specs.declared.answers.NotMade.{NotMade}
use Rattle.kom_types.specs.declared.answers.NotMade.TheVariants as fault
use Rattle.kom_links.specs.Answers.{Answer, said_stopped, deed_of, concerns, first_fault_of, sends, HasRefused}
use Rattle.kom_links.specs.DeskCalls.{record_of}
use Rattle.kom_links.specs.Records.{IsOpen}
use Rattle.kom_model.specs.State.{State}
use Rattle.kom_model.specs.Refusal.{refusal_of}
use Rattle.kom_model.specs.After.{after}
use Rattle.kom_model.specs.Legal.{IsLegal, state_after}
use Rattle.hall_desk.specs.Passes.{PassView, of_pass, connects_in, Knows}
use Rattle.hall_desk.specs.Desks.{WasOnce, WasOverrun, WasStopped, WasFull, IsKnown, IsUndrained, WasUndrained}
use Rattle.hall_desk.specs.Desks.{WasOnceAt, IfDrain, IsKnownAnswer, WasRefusedTo}
use Rattle.hall_desk.specs.Turns.{IsOfOpen, Sees, LogsNone, Ends, AnswersStopped, said_flush}
use Rattle.kom_model.specs.Making.{IsConnect}
use Rattle.hall_desk.proofs.Starting.{IsStart}
use Rattle.hall_desk.proofs.Stepping.{connects_in-append}
use Rattle.hall_desk.proofs.Histories.{or_cases, connects-state_after, connects_within, state_after-append}
use Rattle.hall_desk.proofs.Growing.{Grows, made_adds}
use Rattle.hall_desk.proofs.Refusals.{IsTurnTold, MayRefuse, acting, act_told, stopped_now}

module _ (start : State) where
  -- ---- causes that are known stay known

  connects_in_within : IsStart start → (history : List Record) → IsLegal start history →
      connects_in history ≤ MOST_SESSIONS
  connects_in_within begins history legal =
      let within : (state_after start history).connects ≤ MOST_SESSIONS =
      connects_within start history legal (omega (arith, begins.connects)) in
      let counted : (state_after start history).connects ≡ start.connects + connects_in history =
      connects-state_after start history in
      omega arith

  pub was_more : (test : Session → Bool) (session : ℕ) (a b : List Record) → WasOnce start test session a →
      WasOnce start test session (a ++ b)
  was_more test session a b was =
      (was.0, was.1 ++ b, was.2, ap (λ all. all ++ b) was.3 ∙ append_assoc was.0 was.1 b, was.4, was.5)

  once_at_more : (test : Session → Bool) (a b : List Record) (what : Deed) → WasOnceAt start test a what →
      WasOnceAt start test (a ++ b) what
  once_at_more test a b deed.Connect was = was
  once_at_more test a b (deed.Call session) was = was_more test session a b was
  once_at_more test a b (deed.Broken session) was = was_more test session a b was
  once_at_more test a b (deed.Drain session nothing) was = was_more test session a b was
  once_at_more test a b deed.Flush was = was
  once_at_more test a b (deed.Close session) was = was_more test session a b was
  once_at_more test a b deed.Ask was = was

  pub stopped_more : (a b : List Record) → WasStopped start a → WasStopped start (a ++ b)
  stopped_more a b was = (was.0, was.1 ++ b, ap (λ all. all ++ b) was.2 ∙ append_assoc was.0 was.1 b, was.3)

  pub full_more : IsStart start → (number drawn drawn' : ℕ) (a b : List Record) → IsLegal start (a ++ b) →
      drawn ≤ drawn' → WasFull number drawn a → WasFull number drawn' (a ++ b)
  full_more begins number drawn drawn' a b legal more (inl was) =
      let within : connects_in (a ++ b) ≤ MOST_SESSIONS = connects_in_within begins (a ++ b) legal in
      let parts : connects_in (a ++ b) ≡ connects_in a + connects_in b = connects_in-append a b in
      inl (was.0, omega (arith, was.1))
  full_more begins number drawn drawn' a b legal more (inr was) = inr (was.0, omega (arith, was.1))

  undrained_on : (old new : PassView) (session : ℕ) → Grows start old new → WasUndrained start old session →
      WasUndrained start new session
  undrained_on old new session on (before, rest, is, undrained) = (
    before,
    rest ++ on.more,
    on.seen ∙ ap (λ (seen : List Record). seen ++ on.more) is ∙ append_assoc before rest on.more,
    subst (λ (number : ℕ). IsUndrained start number session before) (sym on.number) undrained,
  )

  drain_on : (old new : PassView) → Grows start old new → (what : Deed) → IfDrain start old what →
      IfDrain start new what
  drain_on old new on deed.Connect if_drain = tt
  drain_on old new on (deed.Call session) if_drain = tt
  drain_on old new on (deed.Broken session) if_drain = tt
  drain_on old new on (deed.Drain session nothing) if_drain = undrained_on old new session on if_drain
  drain_on old new on deed.Flush if_drain = tt
  drain_on old new on (deed.Close session) if_drain = tt
  drain_on old new on deed.Ask if_drain = tt

  once_on : (old new : PassView) → Grows start old new → (test : Session → Bool) (what : Deed) →
      WasOnceAt start test old.seen what → WasOnceAt start test new.seen what
  once_on old new on test what was =
      subst (λ (seen : List Record). WasOnceAt start test seen what) (sym on.seen)
      (once_at_more test old.seen on.more what was)

  known_on : IsStart start → (old new : PassView) → Grows start old new → (one : Answer) →
      IsKnownAnswer start old one → IsKnownAnswer start new one
  known_on begins old new on (what, Ok done) known = tt
  known_on begins old new on (what, Err fault.Memory) known = known
  known_on begins old new on (what, Err (fault.Full number)) known = (
    subst (λ (seen : List Record). WasFull number new.drawn seen) (sym on.seen)
        (full_more begins number old.drawn new.drawn old.seen on.more
        (subst (λ (seen : List Record). IsLegal start seen) on.seen on.legal) on.drawn known.0),
    known.1,
  )
  known_on begins old new on (what, Err (fault.Gone why.Absent)) known = known
  known_on begins old new on (what, Err (fault.Gone why.Dropped)) known =
      (once_on old new on (λ row. row.seat.ended) what known.0, drain_on old new on what known.1)
  known_on begins old new on (what, Err (fault.Gone why.Overrun)) known =
      (once_on old new on (λ row. row.overrun) what known.0, drain_on old new on what known.1)
  known_on begins old new on (what, Err (fault.Gone why.Stopped)) known =
      subst (λ (seen : List Record). WasStopped start seen) (sym on.seen) (stopped_more old.seen on.more known)

  pub all_known_on : IsStart start → (old new : PassView) → Grows start old new → (answers : List Answer) →
      AllByRecursion (IsKnownAnswer start old) answers → AllByRecursion (IsKnownAnswer start new) answers
  all_known_on begins old new on [] known = tt
  all_known_on begins old new on (one ∷ answers) known =
      (known_on begins old new on one known.0, all_known_on begins old new on answers known.1)

  -- ---- the causes of a turn's end

  -- an open session that may not be drained after all that was seen
  undrained_now : (old new : PassView) (session : ℕ) (history : List Record) → IsOpen session old.mine →
      Sees start old new history → LogsNone old new history →
      WasOverrun start session history
      ⊎ (refusal_of (state_after start history) (act.Drain session) ≡ Some (Gone why.Dropped)) →
      WasUndrained start new session
  undrained_now old new session history is_open sees logs is = (
    history,
    [],
    logs.seen ∙ sym (append-nil history),
    (
      subst (λ (mine : List Record). IsOpen session mine)
          (sees.own ∙ ap (λ (pass : ℕ). of_pass pass history) (sym sees.number)) is_open,
      is,
    ),
  )

  at_connect : (what : Act) → IsConnect what → deed_of what ≡ deed.Connect
  at_connect (act.Connect user host) is = refl
  at_connect (act.Call session reference call) is = absurd is
  at_connect (act.Broken session) is = absurd is
  at_connect (act.Drain session) is = absurd is
  at_connect act.Flush is = absurd is
  at_connect (act.Close session) is = absurd is

  full_at : (what : Act) (number : ℕ) → MayRefuse what (fault.Full number) →
      (deed_of what ≡ deed.Connect) ⊎ (2 ^ 62 ≤ number)
  full_at (act.Connect user host) number may = inl refl
  full_at (act.Call session reference call) number may = inr may
  full_at (act.Broken session) number may = inr may
  full_at (act.Drain session) number may = inr may
  full_at act.Flush number may = inr may
  full_at (act.Close session) number may = inr may

  dropped_at : (old new : PassView) (pass moment : ℕ) (what : Act) (items : List Item) → IsOfOpen old.mine what →
      Ends start old new (record { pass = pass; moment = moment; act = what }) items (Err (fault.Gone why.Dropped)) →
      IsTurnTold start (MayRefuse what) old new (acting what) (fault.Gone why.Dropped) →
      WasOnceAt start (λ row. row.seat.ended) new.seen (deed_of what) × IfDrain start new (deed_of what)
  dropped_at old new pass moment (act.Connect user host) items open' ends told = absurd told.may
  dropped_at old new pass moment (act.Call session reference call) items open' ends told = (told.known, tt)
  dropped_at old new pass moment (act.Broken session) items open' ends told = (told.known, tt)
  dropped_at old new pass moment (act.Drain session) items open' (history, sees, logs, is) told =
      (told.known, undrained_now old new session history open' sees logs (inr is))
  dropped_at old new pass moment act.Flush items open' ends told = absurd told.may
  dropped_at old new pass moment (act.Close session) items open' ends told = absurd told.may

  overrun_at : (old new : PassView) (pass moment : ℕ) (what : Act) (items : List Item) → IsOfOpen old.mine what →
      Ends start old new (record { pass = pass; moment = moment; act = what }) items (Err (fault.Gone why.Overrun)) →
      IsTurnTold start (MayRefuse what) old new (acting what) (fault.Gone why.Overrun) →
      WasOnceAt start (λ row. row.overrun) new.seen (deed_of what) × IfDrain start new (deed_of what)
  overrun_at old new pass moment (act.Connect user host) items open' ends told = absurd told.may
  overrun_at old new pass moment (act.Call session reference call) items open' ends told = (told.known, tt)
  overrun_at old new pass moment (act.Broken session) items open' ends told = (told.known, tt)
  overrun_at old new pass moment (act.Drain session) items open' (history, sees, logs, is) told = (
    told.known,
    undrained_now old new session history open' sees logs
        (inl (subst (λ (seen : List Record). WasOverrun start session seen) logs.seen told.known)),
  )
  overrun_at old new pass moment act.Flush items open' ends told = absurd told.may
  overrun_at old new pass moment (act.Close session) items open' ends told = absurd told.may

  told_known : (old new : PassView) (pass moment : ℕ) (what : Act) (items : List Item) (one : NotMade) →
      IsOfOpen old.mine what →
      Ends start old new (record { pass = pass; moment = moment; act = what }) items (Err one) →
      IsTurnTold start (MayRefuse what) old new (acting what) one → IsKnownAnswer start new (deed_of what, Err one)
  told_known old new pass moment what items fault.Memory open' ends told = at_connect what ends.1
  told_known old new pass moment what items (fault.Full number) open' ends told =
      (told.known, full_at what number told.may)
  told_known old new pass moment what items (fault.Gone why.Absent) open' ends told = told.known
  told_known old new pass moment what items (fault.Gone why.Dropped) open' ends told =
      dropped_at old new pass moment what items open' ends told
  told_known old new pass moment what items (fault.Gone why.Overrun) open' ends told =
      overrun_at old new pass moment what items open' ends told
  told_known old new pass moment what items (fault.Gone why.Stopped) open' ends told = told.known

  -- of an act that was refused
  pub refusal_known : IsStart start → (old new : PassView) (pass moment : ℕ) (what : Act) (items : List Item)
      (one : NotMade) → IsOfOpen old.mine what →
      Ends start old new (record { pass = pass; moment = moment; act = what }) items (Err one) →
      IsKnownAnswer start new (deed_of what, Err one)
  refusal_known begins old new pass moment what items one open' ends =
      told_known old new pass moment what items one open' ends
      (act_told start begins old new pass moment what items one open' ends)

  -- a flush that the store refused stops the server
  short_stops : (state : State) (pass moment session : ℕ) (short : Bool) → short ≡ true →
      (after state (record_of pass moment act.Flush session short)).store_refused ≡ true
  short_stops state pass moment session short is = rw is refl

  short_known : (old new : PassView) (pass moment : ℕ) (items : List Item) (made : Record) → Knows start old →
      pass ≡ old.number →
      Ends start old new (record { pass = pass; moment = moment; act = act.Flush }) items (Ok made) →
      made.short ≡ true → WasStopped start new.seen
  short_known old new pass moment items made knows own ends short =
      let adds = (made_adds start old new (record { pass = pass; moment = moment; act = act.Flush }) items made knows
      own ends).0 in
      let history : List Record = old.seen ++ adds.between in
      let one : Record = record_of pass moment act.Flush made.session made.short in (
        new.seen,
        [],
        sym (append-nil new.seen),
        inr (ap (λ (seen : List Record). (state_after start seen).store_refused) adds.seen
            ∙ ap (λ (state : State). state.store_refused) (state_after-append start history (one ∷ []))
            ∙ short_stops (state_after start history) pass moment made.session made.short short),
      )

  pub flush_known : IsStart start → (old new : PassView) (pass moment : ℕ) (items : List Item)
      (made : Result Record NotMade) → Knows start old → pass ≡ old.number →
      Ends start old new (record { pass = pass; moment = moment; act = act.Flush }) items made →
      IsKnownAnswer start new (deed.Flush, said_flush made)
  flush_known begins old new pass moment items (Ok made) knows own ends = elim (cases_Bool made.short) [
    | inl short ↦ rw short (short_known old new pass moment items made knows own ends short)
    | inr whole ↦ rw whole tt
  ]
  flush_known begins old new pass moment items (Err one) knows own ends =
      refusal_known begins old new pass moment act.Flush items one tt ends

  pub question_known : (old new : PassView) (answer : Result Bool NotMade) → AnswersStopped start old new answer →
      IsKnownAnswer start new (deed.Ask, said_stopped answer)
  question_known old new (Ok false) tells = tt
  question_known old new (Ok true) (history, sees, logs, is) =
      subst (λ (seen : List Record). WasStopped start seen) (sym logs.seen)
      (stopped_now start history (or_cases (state_after start history).stopped
      (state_after start history).store_refused (sym is)))
  question_known old new (Err fault.Memory) tells = absurd tells
  question_known old new (Err (fault.Gone told)) tells = absurd tells
  question_known old new (Err (fault.Full number)) tells = (inr (tells.large, tells.below), inr tells.large)

  -- ---- what the log tells of a session

  module _ (pass : PassView) (session : ℕ) where
    caller_once : (test : Session → Bool) (caller : ℕ) → WasOnce start test caller pass.seen →
        eqb caller session ≡ true → WasOnce start test session pass.seen
    caller_once test caller was is =
        subst (λ (n : ℕ). WasOnce start test n pass.seen) (eqb-true _ _ is) was

    concerned_once : (test : Session → Bool) (what : Deed) → WasOnceAt start test pass.seen what →
        concerns session what ≡ true → WasOnce start test session pass.seen
    concerned_once test deed.Connect was is = absurd was
    concerned_once test (deed.Call caller) was is = caller_once test caller was is
    concerned_once test (deed.Broken caller) was is = caller_once test caller was is
    concerned_once test (deed.Drain caller nothing) was is = caller_once test caller was is
    concerned_once test deed.Flush was is = absurd was
    concerned_once test (deed.Close caller) was is = caller_once test caller was is
    concerned_once test deed.Ask was is = absurd was

    concerned_known : (what : Deed) (one : NotMade) → IsKnownAnswer start pass (what, Err one) →
        concerns session what ≡ true → IsKnown start pass.seen pass.drawn session (Some one)
    concerned_known what fault.Memory known is = tt
    concerned_known what (fault.Full number) known is = known.0
    concerned_known what (fault.Gone why.Absent) known is = known
    concerned_known what (fault.Gone why.Dropped) known is =
        concerned_once (λ row. row.seat.ended) what known.0 is
    concerned_known what (fault.Gone why.Overrun) known is = concerned_once (λ row. row.overrun) what known.0 is
    concerned_known what (fault.Gone why.Stopped) known is = known

    -- the first fault that concerns a session has its cause
    pub refused_known : (answers : List Answer) (one : NotMade) →
        AllByRecursion (IsKnownAnswer start pass) answers → first_fault_of session answers ≡ Some one →
        IsKnown start pass.seen pass.drawn session (Some one)
    refused_known [] one known is = cc
    refused_known ((what, Ok done) ∷ answers) one known is = elim (cases_Bool (concerns session what)) [
      | inl here ↦ refused_known answers one known.1 (rw here at is)
      | inr there ↦ refused_known answers one known.1 (rw there at is)
    ]
    refused_known ((what, Err first) ∷ answers) one known is = elim (cases_Bool (concerns session what)) [
      | inl here ↦
          let is' : Some first ≡ Some one = rw here at is in
          let same : first ≡ one = cc in
          subst (λ (one : NotMade). IsKnown start pass.seen pass.drawn session (Some one)) same
          (concerned_known what first known.0 here)
      | inr there ↦ refused_known answers one known.1 (rw there at is)
    ]

    drained_known : (what : Deed) → IfDrain start pass what → (test : Session → Bool) →
        WasOnceAt start test pass.seen what → sends session what ≡ true → WasUndrained start pass session
    drained_known deed.Connect if_drain test was is = cc
    drained_known (deed.Call caller) if_drain test was is = cc
    drained_known (deed.Broken caller) if_drain test was is = cc
    drained_known (deed.Drain caller nothing) if_drain test was is =
        subst (λ (n : ℕ). WasUndrained start pass n) (eqb-true _ _ is) if_drain
    drained_known deed.Flush if_drain test was is = absurd was
    drained_known (deed.Close caller) if_drain test was is = cc
    drained_known deed.Ask if_drain test was is = cc

    not_connect : (what : Deed) → sends session what ≡ true → what ≡ deed.Connect → ⊥
    not_connect what is connect =
        let wrong : sends session deed.Connect ≡ true = ap (sends session) (sym connect) ∙ is in cc

    -- a ticket that has no turn
    full_known : (what : Deed) (number : ℕ) → WasFull number pass.drawn pass.seen →
        (what ≡ deed.Connect) ⊎ (2 ^ 62 ≤ number) → sends session what ≡ true → 2 ^ 62 < pass.drawn
    full_known what number full (inl connect) is = absurd (not_connect what is connect)
    full_known what number (inl sessions) (inr large) is = omega (arith, sessions.0)
    full_known what number (inr ticket) (inr large) is = omega (arith, ticket.1)

    sent_known : (what : Deed) (one : NotMade) → IsKnownAnswer start pass (what, Err one) →
        sends session what ≡ true → WasRefusedTo start pass session
    sent_known what fault.Memory known is = absurd (not_connect what is known)
    sent_known what (fault.Full number) known is = inl (full_known what number known.0 known.1 is)
    sent_known what (fault.Gone why.Absent) known is = absurd known
    sent_known what (fault.Gone why.Dropped) known is =
        inr (inr (drained_known what known.1 (λ row. row.seat.ended) known.0 is))
    sent_known what (fault.Gone why.Overrun) known is =
        inr (inr (drained_known what known.1 (λ row. row.overrun) known.0 is))
    sent_known what (fault.Gone why.Stopped) known is = inr (inl known)

    known_within : (before : List Answer) (one : Answer) (rest : List Answer) →
        AllByRecursion (IsKnownAnswer start pass) (before ++ one ∷ rest) → IsKnownAnswer start pass one
    known_within [] one rest known = known.0
    known_within (first ∷ before) one rest known = known_within before one rest known.1

    -- and so has a flush or a drain of it that was refused
    pub sent_refused : (answers : List Answer) → AllByRecursion (IsKnownAnswer start pass) answers →
        HasRefused session answers → WasRefusedTo start pass session
    sent_refused answers known (before, rest, what, one, is, sent) =
        sent_known what one (known_within before (what, Err one) rest
        (subst (λ (answers : List Answer). AllByRecursion (IsKnownAnswer start pass) answers) is known)) sent
