-- Who makes the calls of a session: its own pass alone, and nobody once a call has ended it.
use Rattle.std.proofs.Common.{◌≡◌, ℕ, ◌+◌, ◌<◌, ◌≤◌, ◌⊎◌, inl, inr, Bool, true, false, ◌&&◌, eqb, ◌==◌, List, [], ◌∷◌}
use Rattle.std.proofs.Common.{Option, Some, None, refl, sym, ap, subst, ◌∙◌, arith}
use Rattle.std.specs.List.{list_all, AllByRecursion}
use Rattle.std.specs.Option.{IsSome, IfSome}
use Rattle.std.proofs.lemmas.Bool.{cases_Bool, cases_eq, ne_eqb, eqb-true, eq-eqb}
use Rattle.kom_types.specs.declared.acts.Act.{Act}
use Rattle.kom_types.specs.declared.acts.Act.TheVariants as act
use Rattle.kom_types.specs.declared.acts.Record.{Record}
use Rattle.kom_types.specs.declared.calls.Call.{Call}
use Rattle.kom_types.specs.declared.answers.NotMade.TheVariants.{Gone}
use Rattle.kom_types.specs.declared.answers.Why.TheVariants as why
use Rattle.kom_types.specs.declared.items.Item.{Item}
use Rattle.kom_types.specs.Sessions.{Session, fresh_session}
use Rattle.kom_links.specs.DeskCalls.{record_of}
use Rattle.kom_links.specs.Records.{is_connect, has_connect}
use Rattle.kom_links.specs.Talk.{Drains, first_given, other_given, is_quiet, steps_of}
use Rattle.kom_model.specs.State.{State, session_of}
use Rattle.kom_model.specs.Refusal.{is_drained, call_refused, drain_refused, unless_store_refused}
use Rattle.kom_model.specs.After.{MayFollow, moment_of, after}
use Rattle.kom_model.specs.Legal.{IsLegal, IsByOwner, AreByOwners, state_after}
use Rattle.kom_model.proofs.Finding.{find-added_other, find-removed_same, find-removed_other}
use Rattle.kom_model.proofs.Closing.{IsOver, IsOver-after}
use Rattle.hall_desk.specs.Passes.{of_pass}
use Rattle.hall_desk.proofs.Seats.{IsEnded, ended-seats}
use Rattle.hall_desk.proofs.Stepping.{sent-seats, acted-seats, AreDrawn, drawn-after, one_owner, stands_drawn}
use Rattle.hall_desk.proofs.Stepping.{acting_stands}
use Rattle.hall_desk.proofs.Histories.{or_cases, or_none, and_both}
use Rattle.kom_serving.specs.Runs.{is_call, has_call}
use Rattle.kom_serving.proofs.Histories.{not_both, connect_above}
use Rattle.kom_serving.proofs.Owning.{IsKept, has_some, not_over, kept_step, connects_it}
use Rattle.kom_serving.proofs.Within.{IsApart}

-- ---- a session of a pass, at any moment after its Connect

pub kept_along : (n pass : ℕ) (state : State) (history : List Record) → AreDrawn state → IsLegal state history →
    AreByOwners state history → IsKept n pass state → IsKept n pass (state_after state history)
kept_along n pass state [] drawn legal owned kept = kept
kept_along n pass state (made ∷ history) drawn legal owned kept =
    kept_along n pass (after state made) history (drawn-after state made drawn) legal.1 owned.1
    (kept_step n pass state made drawn legal.0 owned.0 kept)

pub kept_from : (n pass : ℕ) (state : State) (history : List Record) → AreDrawn state → IsLegal state history →
    AreByOwners state history → has_connect n (of_pass pass history) ≡ true →
    IsKept n pass (state_after state history)
kept_from n pass state [] drawn legal owned connected = cc
kept_from n pass state (made ∷ history) drawn legal owned connected =
    let drawn' : AreDrawn (after state made) = drawn-after state made drawn in
    elim (cases_Bool (eqb made.entry.pass pass)) [
      | inl here ↦
          let all : has_connect n (made ∷ of_pass pass history) ≡ true = rw here at connected in
          elim (or_cases (is_connect made.entry.act && (made.session == n)) (has_connect n (of_pass pass history))
          all) [
            | inl now ↦ kept_along n pass (after state made) history drawn' legal.1 owned.1
                (inl (connects_it n pass state made.entry.pass made.entry.moment made.entry.act made.session made.short
                drawn legal.0 (eqb-true _ _ here) now))
            | inr later ↦ kept_from n pass (after state made) history drawn' legal.1 owned.1 later
          ]
      | inr there ↦ kept_from n pass (after state made) history drawn' legal.1 owned.1 (rw there at connected)
    ]

-- it is not connected again
kept_drawn : (n pass : ℕ) (state : State) → AreDrawn state → IsKept n pass state → n ≤ state.connects
kept_drawn n pass state drawn (inl has) = stands_drawn n state drawn (has_some n pass state has)
kept_drawn n pass state drawn (inr over) = over.drawn

pub drawn_once : (n : ℕ) (state : State) (history : List Record) → IsLegal state history → n ≤ state.connects →
    has_connect n history ≡ false
drawn_once n state history legal below =
    elim (cases_Bool (has_connect n history)) [
      | inl again ↦
          let above : state.connects < n =
          connect_above n state history legal again in absurd (omega (arith, above, below))
      | inr never ↦ never
    ]

pub kept_once : (n pass : ℕ) (state : State) (history : List Record) → AreDrawn state → IsLegal state history →
    IsKept n pass state → has_connect n history ≡ false
kept_once n pass state history drawn legal kept =
    drawn_once n state history legal (kept_drawn n pass state drawn kept)

-- ---- calls by its own pass alone

no_other : (n pass : ℕ) (state : State) (by moment session number reference : ℕ) (call : Call) (short : Bool) →
    MayFollow state (record_of by moment (act.Call number reference call) session short) →
    IsByOwner state (record { pass = by; moment = moment; act = act.Call number reference call }) →
    (by ≡ pass → ⊥) → IsKept n pass state → session ≡ n → ⊥
no_other n pass state by moment session number reference call short may owner other (inl has) at =
    let named : number ≡ n = sym may.session ∙ at in
    let owned : IfSome (session_of n state) (λ row. row.seat.pass ≡ by) = rw named at owner in
    other (sym (one_owner n pass by (session_of n state) has owned))
no_other n pass state by moment session number reference call short may owner other (inr over) at =
    let stands : IsSome (session_of session state) =
    acting_stands state by moment (act.Call number reference call) session short may refl (λ e. cc) in
    not_over n state over (rw at at stands)

-- another pass does not call for it
others_call_none : (n pass : ℕ) (state : State) (by moment : ℕ) (what : Act) (session : ℕ) (short : Bool) →
    MayFollow state (record_of by moment what session short) →
    IsByOwner state (record { pass = by; moment = moment; act = what }) → (by ≡ pass → ⊥) → IsKept n pass state →
    (is_call what && (session == n)) ≡ false
others_call_none n pass state by moment (act.Call number reference call) session short may owner other kept =
    elim (cases_eq session n) [
      | inl at ↦ absurd
          (no_other n pass state by moment session number reference call short may owner other kept at)
      | inr differs ↦ ne_eqb session n differs
    ]
others_call_none n pass state by moment (act.Connect user host) session short may owner other kept = refl
others_call_none n pass state by moment (act.Broken number) session short may owner other kept = refl
others_call_none n pass state by moment (act.Drain number) session short may owner other kept = refl
others_call_none n pass state by moment act.Flush session short may owner other kept = refl
others_call_none n pass state by moment (act.Close number) session short may owner other kept = refl

-- where the pass has no call of it, nobody has
pub calls_own : (n pass : ℕ) (state : State) (history : List Record) → AreDrawn state → IsLegal state history →
    AreByOwners state history → IsKept n pass state → has_call n (of_pass pass history) ≡ false →
    has_call n history ≡ false
calls_own n pass state [] drawn legal owned kept none = refl
calls_own n pass state (made ∷ history) drawn legal owned kept none =
    let drawn' : AreDrawn (after state made) = drawn-after state made drawn in
    let kept' : IsKept n pass (after state made) = kept_step n pass state made drawn legal.0 owned.0 kept in
    elim (cases_Bool (eqb made.entry.pass pass)) [
      | inl here ↦
          let all : has_call n (made ∷ of_pass pass history) ≡ false = rw here at none in
          let both : ((is_call made.entry.act && (made.session == n)) ≡ false)
          × (has_call n (of_pass pass history) ≡ false) =
          or_none _ _ all in
          rw both.0 (calls_own n pass (after state made) history drawn' legal.1 owned.1 kept' both.1)
      | inr there ↦
          let first : (is_call made.entry.act && (made.session == n)) ≡ false =
          others_call_none n pass state made.entry.pass made.entry.moment made.entry.act made.session made.short legal.0
          owned.0 (differs made.entry.pass pass there) kept in
          rw first (calls_own n pass (after state made) history drawn' legal.1 owned.1 kept' (rw there at none))
    ]
  where
    differs : (a b : ℕ) → eqb a b ≡ false → a ≡ b → ⊥
    differs a b apart e = not_both _ (eq-eqb a b e) apart

no_own : (a b : Bool) → b ≡ false → (a && b) ≡ false
no_own true b e = e
no_own false b e = refl

-- records of others have none
pub apart_calls : (n : ℕ) (records : List Record) → AllByRecursion (IsApart n) records → has_call n records ≡ false
apart_calls n [] apart = refl
apart_calls n (made ∷ records) (inl other, apart) =
    rw (no_own (is_call made.entry.act) (made.session == n) other) (apart_calls n records apart)
apart_calls n (made ∷ records) (inr flush, apart) = rw flush.1 (apart_calls n records apart)

-- ---- steps without a call

abbrev IsQuietDrain : ℕ → List Record → List (List Item) → Bool → Type 0
IsQuietDrain session records given own = list_all is_quiet (elim own [
  | true ↦ Drains (first_given given) ∷ steps_of session records (other_given given)
  | false ↦ steps_of session records given
]) ≡ true

quiet_step : (session : ℕ) (pass moment : ℕ) (what : Act) (named : ℕ) (short : Bool) (records : List Record)
    (given : List (List Item)) → ((given : List (List Item)) →
    list_all is_quiet (steps_of session records given) ≡ true →
    (has_call session records ≡ false) × (has_connect session records ≡ false)) →
    list_all is_quiet (steps_of session (record_of pass moment what named short ∷ records) given) ≡ true →
    (has_call session (record_of pass moment what named short ∷ records) ≡ false)
    × (has_connect session (record_of pass moment what named short ∷ records) ≡ false)
quiet_step session pass moment (act.Connect user host) named short records given rest quiet =
    elim (cases_Bool (eqb named session)) [
      | inl here ↦ let wrong : false ≡ true = rw here at quiet in cc
      | inr there ↦ let both = rest given (rw there at quiet) in (both.0, rw there both.1)
    ]
quiet_step session pass moment (act.Call number reference call) named short records given rest quiet =
    elim (cases_Bool (eqb named session)) [
      | inl here ↦ let wrong : false ≡ true = rw here at quiet in cc
      | inr there ↦ let both = rest given (rw there at quiet) in (rw there both.0, both.1)
    ]
quiet_step session pass moment (act.Broken number) named short records given rest quiet =
    elim (cases_Bool (eqb named session)) [
      | inl here ↦ rest given (rw here at quiet)
      | inr there ↦ rest given (rw there at quiet)
    ]
quiet_step session pass moment (act.Drain number) named short records given rest quiet =
    elim (cases_Bool (eqb named session)) [
      | inl here ↦ rest (other_given given) (subst (IsQuietDrain session records given) here quiet)
      | inr there ↦ rest given (subst (IsQuietDrain session records given) there quiet)
    ]
quiet_step session pass moment act.Flush named short records given rest quiet = rest given quiet
quiet_step session pass moment (act.Close number) named short records given rest quiet =
    elim (cases_Bool (eqb named session)) [
      | inl here ↦ rest given (rw here at quiet)
      | inr there ↦ rest given (rw there at quiet)
    ]

pub quiet_calls : (session : ℕ) (records : List Record) (given : List (List Item)) →
    list_all is_quiet (steps_of session records given) ≡ true →
    (has_call session records ≡ false) × (has_connect session records ≡ false)
quiet_calls session [] given quiet = (refl, refl)
quiet_calls session (made ∷ records) given quiet =
    quiet_step session made.entry.pass made.entry.moment made.entry.act made.session made.short records given
    (quiet_calls session records) quiet

-- ---- no call of a session that a call ended

-- a call ended it, and it may be closed since
abbrev pub IsDone : ℕ → State → Type 0
IsDone n state = IsEnded (session_of n state) ⊎ IsOver n state

ended_some : (n : ℕ) (state : State) → IsEnded (session_of n state) → IsSome (session_of n state)
ended_some n state ended = rw ended.1 refl

done_step : (n : ℕ) (state : State) (by moment : ℕ) (what : Act) (session : ℕ) (short : Bool) → AreDrawn state →
    MayFollow state (record_of by moment what session short) → IsEnded (session_of n state) →
    IsDone n (after state (record_of by moment what session short))
done_step n state by moment (act.Connect user host) session short drawn may ended =
    let made : Record = record_of by moment (act.Connect user host) session short in
    let row : Session = fresh_session (state.connects + 1) by user host (moment_of state moment) in
    let below : n ≤ state.connects = stands_drawn n state drawn (ended_some n state ended) in
    let other : n ≡ row.seat.number → ⊥ = λ e. omega (arith, below, e) in
    inl (ended-seats n _ _ (sent-seats state made) (rw (find-added_other n row other state.sessions) ended))
done_step n state by moment (act.Call number reference call) session short drawn may ended =
    inl (ended-seats n _ _ (sent-seats state (record_of by moment (act.Call number reference call) session short))
    (ended-seats n _ _ (acted-seats state by moment (act.Call number reference call) session short tt) ended))
done_step n state by moment (act.Broken number) session short drawn may ended =
    inl (ended-seats n _ _ (sent-seats state (record_of by moment (act.Broken number) session short))
    (ended-seats n _ _ (acted-seats state by moment (act.Broken number) session short tt) ended))
done_step n state by moment (act.Drain number) session short drawn may ended =
    inl (ended-seats n _ _ (sent-seats state (record_of by moment (act.Drain number) session short))
    (ended-seats n _ _ (acted-seats state by moment (act.Drain number) session short tt) ended))
done_step n state by moment act.Flush session short drawn may ended =
    inl (ended-seats n _ _ (sent-seats state (record_of by moment act.Flush session short))
    (ended-seats n _ _ (acted-seats state by moment act.Flush session short tt) ended))
done_step n state by moment (act.Close number) session short drawn may ended =
    elim (cases_eq n number) [
      | inl here ↦ inr (record {
        drawn = stands_drawn n state drawn (ended_some n state ended);
        absent = rw here (find-removed_same number state.sessions);
      })
      | inr other ↦
          inl (ended-seats n _ _ (sent-seats state (record_of by moment (act.Close number) session short))
          (rw (find-removed_other number n other state.sessions) ended))
    ]

done_after : (n : ℕ) (state : State) (made : Record) → AreDrawn state → MayFollow state made → IsDone n state →
    IsDone n (after state made)
done_after n state made drawn may (inl ended) =
    done_step n state made.entry.pass made.entry.moment made.entry.act made.session made.short drawn may ended
done_after n state made drawn may (inr over) = inr (IsOver-after n state made over)

ended_refused : (refused stopped : Bool) (found : Option Session) → IsEnded found →
    unless_store_refused refused (call_refused stopped found) ≡ None → ⊥
ended_refused true stopped found ended possible = cc
ended_refused false stopped None ended possible = cc
ended_refused false stopped (Some row) ended possible =
    let found : Some row ≡ Some ended.0 = ended.1 in
    let same : row ≡ ended.0 = cc in
    let is : row.seat.ended ≡ true = ap (λ (row : Session). row.seat.ended) same ∙ ended.2 in
    let wrong : Some (Gone why.Dropped) ≡ None = rw is at possible in
    cc

no_more : (n : ℕ) (state : State) (by moment session number reference : ℕ) (call : Call) (short : Bool) →
    MayFollow state (record_of by moment (act.Call number reference call) session short) → IsDone n state →
    session ≡ n → ⊥
no_more n state by moment session number reference call short may (inl ended) at =
    let named : number ≡ n = sym may.session ∙ at in
    ended_refused state.store_refused state.stopped (session_of number state) (rw named ended) may.possible
no_more n state by moment session number reference call short may (inr over) at =
    let stands : IsSome (session_of session state) =
    acting_stands state by moment (act.Call number reference call) session short may refl (λ e. cc) in
    not_over n state over (rw at at stands)

done_calls_none : (n : ℕ) (state : State) (by moment : ℕ) (what : Act) (session : ℕ) (short : Bool) →
    MayFollow state (record_of by moment what session short) → IsDone n state →
    (is_call what && (session == n)) ≡ false
done_calls_none n state by moment (act.Call number reference call) session short may done =
    elim (cases_eq session n) [
      | inl at ↦ absurd (no_more n state by moment session number reference call short may done at)
      | inr differs ↦ ne_eqb session n differs
    ]
done_calls_none n state by moment (act.Connect user host) session short may done = refl
done_calls_none n state by moment (act.Broken number) session short may done = refl
done_calls_none n state by moment (act.Drain number) session short may done = refl
done_calls_none n state by moment act.Flush session short may done = refl
done_calls_none n state by moment (act.Close number) session short may done = refl

pub done_calls : (n : ℕ) (state : State) (history : List Record) → AreDrawn state → IsLegal state history →
    IsDone n state → has_call n history ≡ false
done_calls n state [] drawn legal done = refl
done_calls n state (made ∷ history) drawn legal done =
    let first : (is_call made.entry.act && (made.session == n)) ≡ false =
    done_calls_none n state made.entry.pass made.entry.moment made.entry.act made.session made.short legal.0 done in
    rw first
    (done_calls n (after state made) history (drawn-after state made drawn) legal.1
    (done_after n state made drawn legal.0 done))

-- a drain is refused as dropped only there
pub dropped_ended : (refused : Bool) (found : Option Session) →
    unless_store_refused refused (drain_refused found) ≡ Some (Gone why.Dropped) → IsEnded found
dropped_ended true found is = cc
dropped_ended false None is = cc
dropped_ended false (Some row) is = elim (cases_Bool (row.seat.ended && is_drained row)) [
  | inl both ↦ (row, refl, (and_both row.seat.ended (is_drained row) both).0)
  | inr stays ↦ elim (cases_Bool row.overrun) [
    | inl over ↦ let wrong : Some (Gone why.Overrun) ≡ Some (Gone why.Dropped) = rw over at (rw stays at is) in cc
    | inr fits ↦ let wrong : None ≡ Some (Gone why.Dropped) = rw fits at (rw stays at is) in cc
  ]
]
