-- A session is drained by the pass alone that connected it: what the drains of all passes give it along a history
-- is what those of its own pass give it.
use Rattle.std.proofs.Common.{◌≡◌, ℕ, ◌<◌, ◌≤◌, ◌⊎◌, inl, inr, Bool, true, false, not, ◌&&◌, eqb, ◌==◌, List, [], ◌∷◌}
use Rattle.std.proofs.Common.{◌++◌, Option, None, refl, sym, ap, subst, ◌∙◌, arith, append-nil}
use Rattle.std.specs.List.{find, filter, AllByRecursion}
use Rattle.std.specs.Option.{is_some, IsSome, IfSome}
use Rattle.std.proofs.lemmas.Bool.{cases_Bool, eqb-true, eq-eqb}
use Rattle.kom_types.specs.declared.acts.Act.{Act}
use Rattle.kom_types.specs.declared.acts.Act.TheVariants as act
use Rattle.kom_types.specs.declared.acts.Record.{Record}
use Rattle.kom_types.specs.Sessions.{Session, is_session}
use Rattle.kom_links.specs.DeskCalls.{record_of}
use Rattle.kom_links.specs.Records.{is_connect, is_close, has_connect}
use Rattle.kom_model.specs.State.{State, session_of}
use Rattle.kom_model.specs.After.{MayFollow, after}
use Rattle.kom_model.specs.Legal.{IsLegal, IsByOwner, AreByOwners, state_after}
use Rattle.kom_model.specs.Out.{given_by, given_along, given_by_pass}
use Rattle.kom_model.proofs.Finding.{find-removed_same}
use Rattle.kom_model.proofs.Closing.{IsOver, IsOver-after}
use Rattle.hall_desk.specs.Passes.{of_pass}
use Rattle.hall_desk.proofs.Stepping.{AreDrawn, drawn-after, Has, one_owner, has_step, connects_now, stands_drawn}
use Rattle.hall_desk.proofs.Stepping.{acting_stands}
use Rattle.hall_desk.proofs.Histories.{or_cases, of_pass-append, given-append, gives_none}
use Rattle.kom_serving.proofs.Histories.{legal_prefix, legal_tail, owners_prefix, connect_above, connect_of}
use Rattle.kom_serving.proofs.Histories.{connect_more}
use Rattle.kom_serving.proofs.Within.{IsApart}

-- the pass has the session, or it was there and is no more
abbrev pub IsKept : ℕ → ℕ → State → Type 0
IsKept n pass state = Has n pass state ⊎ IsOver n state

pub has_some : (n pass : ℕ) (state : State) → Has n pass state → IsSome (session_of n state)
has_some n pass state has = rw has.1 refl

pub not_over : (n : ℕ) (state : State) → IsOver n state → IsSome (session_of n state) → ⊥
not_over n state over some =
    let no : is_some (session_of n state) ≡ false = ap (λ (found : Option Session). is_some found) over.absent in cc

-- a session that is closed now is there no more
closed_now : (n : ℕ) (state : State) (pass moment : ℕ) (what : Act) (session : ℕ) (short : Bool) →
    n ≤ state.connects → MayFollow state (record_of pass moment what session short) →
    (is_close what && (session == n)) ≡ true → IsOver n (after state (record_of pass moment what session short))
closed_now n state pass moment (act.Close number) session short drawn may here =
    let at : session ≡ n = eqb-true _ _ here in
    let named : number ≡ n = sym may.session ∙ at in
    record {
      drawn = drawn;
      absent = subst
          (λ (k : ℕ). find (is_session k) (filter (λ row. not (is_session number row)) state.sessions) ≡ None) named
          (find-removed_same number state.sessions);
    }
closed_now n state pass moment (act.Connect user host) session short drawn may here = cc
closed_now n state pass moment (act.Call number reference call) session short drawn may here = cc
closed_now n state pass moment (act.Broken number) session short drawn may here = cc
closed_now n state pass moment (act.Drain number) session short drawn may here = cc
closed_now n state pass moment act.Flush session short drawn may here = cc

pub kept_step : (n pass : ℕ) (state : State) (made : Record) → AreDrawn state → MayFollow state made →
    IsByOwner state made.entry → IsKept n pass state → IsKept n pass (after state made)
kept_step n pass state made drawn may owner (inr over) = inr (IsOver-after n state made over)
kept_step n pass state made drawn may owner (inl has) =
    elim (cases_Bool (is_close made.entry.act && (made.session == n))) [
      | inl here ↦
          inr (closed_now n state made.entry.pass made.entry.moment made.entry.act made.session made.short
          (stands_drawn n state drawn (has_some n pass state has)) may here)
      | inr there ↦
          inl (has_step n pass state made.entry.pass made.entry.moment made.entry.act made.session made.short drawn may
          owner has (λ own. there))
    ]

-- another pass does not drain it
others_drain_none : (n pass : ℕ) (state : State) (by moment : ℕ) (what : Act) (session : ℕ) (short : Bool) →
    MayFollow state (record_of by moment what session short) →
    IsByOwner state (record { pass = by; moment = moment; act = what }) → (by ≡ pass → ⊥) → IsKept n pass state →
    what ≡ act.Drain n → ⊥
others_drain_none n pass state by moment (act.Drain number) session short may owner other (inl has) drain =
    let named : number ≡ n = cc in
    let owned : IfSome (session_of n state) (λ row. row.seat.pass ≡ by) = rw named at owner in
    other (sym (one_owner n pass by (session_of n state) has owned))
others_drain_none n pass state by moment (act.Drain number) session short may owner other (inr over) drain =
    let named : number ≡ n = cc in
    let stands : IsSome (session_of session state) =
    acting_stands state by moment (act.Drain number) session short may refl (λ e. cc) in
    let at : session ≡ n = may.session ∙ named in
    not_over n state over (rw at at stands)
others_drain_none n pass state by moment (act.Connect user host) session short may owner other kept drain = cc
others_drain_none n pass state by moment (act.Call number reference call) session short may owner other kept drain = cc
others_drain_none n pass state by moment (act.Broken number) session short may owner other kept drain = cc
others_drain_none n pass state by moment act.Flush session short may owner other kept drain = cc
others_drain_none n pass state by moment (act.Close number) session short may owner other kept drain = cc

given_kept : (n pass : ℕ) (state : State) (history : List Record) → AreDrawn state → IsLegal state history →
    AreByOwners state history → IsKept n pass state → given_along state n history ≡ given_by_pass state pass n history
given_kept n pass state [] drawn legal owned kept = refl
given_kept n pass state (made ∷ history) drawn legal owned kept =
    let rest : given_along (after state made) n history ≡ given_by_pass (after state made) pass n history =
    given_kept n pass (after state made) history (drawn-after state made drawn) legal.1 owned.1
    (kept_step n pass state made drawn legal.0 owned.0 kept) in
    elim (cases_Bool (eqb made.entry.pass pass)) [
      | inl here ↦ rw here (ap (λ last. given_by state n made ++ last) rest)
      | inr there ↦
          let none : given_by state n made ≡ [] =
          gives_none n state made.entry.pass made.entry.moment made.entry.act made.session made.short
          (others_drain_none n pass state made.entry.pass made.entry.moment made.entry.act made.session made.short
          legal.0 owned.0 (other made.entry.pass pass there) kept) in
          rw there (ap (λ first. first ++ given_along (after state made) n history) none ∙ rest)
    ]
  where
    other : (a b : ℕ) → eqb a b ≡ false → a ≡ b → ⊥
    other a b differs e = let same : eqb a b ≡ true = eq-eqb a b e in cc

-- before its Connect nobody drains it
undrawn_none : (n : ℕ) (state : State) (pass moment : ℕ) (what : Act) (session : ℕ) (short : Bool) → AreDrawn state →
    MayFollow state (record_of pass moment what session short) → state.connects < n → what ≡ act.Drain n → ⊥
undrawn_none n state pass moment (act.Drain number) session short drawn may above drain =
    let named : number ≡ n = cc in
    let stands : IsSome (session_of session state) =
    acting_stands state pass moment (act.Drain number) session short may refl (λ e. cc) in
    omega (arith, stands_drawn session state drawn stands, may.session)
undrawn_none n state pass moment (act.Connect user host) session short drawn may above drain = cc
undrawn_none n state pass moment (act.Call number reference call) session short drawn may above drain = cc
undrawn_none n state pass moment (act.Broken number) session short drawn may above drain = cc
undrawn_none n state pass moment act.Flush session short drawn may above drain = cc
undrawn_none n state pass moment (act.Close number) session short drawn may above drain = cc

-- a Connect of the session by the pass
pub connects_it : (n pass : ℕ) (state : State) (by moment : ℕ) (what : Act) (session : ℕ) (short : Bool) →
    AreDrawn state → MayFollow state (record_of by moment what session short) → by ≡ pass →
    (is_connect what && (session == n)) ≡ true → Has n pass (after state (record_of by moment what session short))
connects_it n pass state by moment (act.Connect user host) session short drawn may own here =
    let at : session ≡ n = eqb-true _ _ here in
    let has : Has session by (after state (record_of by moment (act.Connect user host) session short)) =
    connects_now by state moment user host session short drawn may in
    subst (λ (k : ℕ). Has k pass (after state (record_of by moment (act.Connect user host) session short))) at
    (subst (λ (k : ℕ). Has session k (after state (record_of by moment (act.Connect user host) session short))) own has)
connects_it n pass state by moment (act.Call number reference call) session short drawn may own here = cc
connects_it n pass state by moment (act.Broken number) session short drawn may own here = cc
connects_it n pass state by moment (act.Drain number) session short drawn may own here = cc
connects_it n pass state by moment act.Flush session short drawn may own here = cc
connects_it n pass state by moment (act.Close number) session short drawn may own here = cc

-- What is given to a session that the pass connected is what the pass's own drains give it.
pub given_own : (n pass : ℕ) (state : State) (history : List Record) → AreDrawn state → IsLegal state history →
    AreByOwners state history → has_connect n (of_pass pass history) ≡ true →
    given_along state n history ≡ given_by_pass state pass n history
given_own n pass state [] drawn legal owned connected = cc
given_own n pass state (made ∷ history) drawn legal owned connected =
    let above : state.connects < n =
    connect_above n state (made ∷ history) legal (connect_of n pass (made ∷ history) connected) in
    let none : given_by state n made ≡ [] =
    gives_none n state made.entry.pass made.entry.moment made.entry.act made.session made.short
    (undrawn_none n state made.entry.pass made.entry.moment made.entry.act made.session made.short drawn legal.0 above)
    in
    let drawn' : AreDrawn (after state made) = drawn-after state made drawn in
    elim (cases_Bool (eqb made.entry.pass pass)) [
      | inl here ↦
          let all : has_connect n (made ∷ of_pass pass history) ≡ true = rw here at connected in
          let rest : given_along (after state made) n history ≡ given_by_pass (after state made) pass n history =
          elim (or_cases (is_connect made.entry.act && (made.session == n)) (has_connect n (of_pass pass history))
          all) [
            | inl now ↦ given_kept n pass (after state made) history drawn' legal.1 owned.1
                (inl (connects_it n pass state made.entry.pass made.entry.moment made.entry.act made.session made.short
                drawn legal.0 (eqb-true _ _ here) now))
            | inr later ↦ given_own n pass (after state made) history drawn' legal.1 owned.1 later
          ] in
          rw here (ap (λ last. given_by state n made ++ last) rest)
      | inr there ↦
          let rest : given_along (after state made) n history ≡ given_by_pass (after state made) pass n history =
          given_own n pass (after state made) history drawn' legal.1 owned.1 (rw there at connected) in
          rw there (ap (λ first. first ++ given_along (after state made) n history) none ∙ rest)
    ]

-- ---- a history that goes on

apart_none : (n : ℕ) (state : State) (pass moment : ℕ) (what : Act) (session : ℕ) (short : Bool) → (n ≡ 0 → ⊥) →
    MayFollow state (record_of pass moment what session short) →
    IsApart n (record_of pass moment what session short) →
    given_by state n (record_of pass moment what session short) ≡ []
apart_none n state pass moment (act.Connect user host) session short some may apart = refl
apart_none n state pass moment (act.Call number reference call) session short some may apart = refl
apart_none n state pass moment (act.Broken number) session short some may apart = refl
apart_none n state pass moment (act.Drain number) session short some may (inl other) =
    let no : eqb number n ≡ false = ap (λ (k : ℕ). eqb k n) (sym may.session) ∙ other in rw no refl
apart_none n state pass moment (act.Drain number) session short some may (inr flush) = absurd (some flush.0)
apart_none n state pass moment act.Flush session short some may apart = refl
apart_none n state pass moment (act.Close number) session short some may apart = refl

none_given : (n pass : ℕ) (state : State) (history : List Record) → (n ≡ 0 → ⊥) → IsLegal state history →
    AllByRecursion (IsApart n) (of_pass pass history) → given_by_pass state pass n history ≡ []
none_given n pass state [] some legal apart = refl
none_given n pass state (made ∷ history) some legal apart =
    elim (cases_Bool (eqb made.entry.pass pass)) [
      | inl here ↦
          let all : AllByRecursion (IsApart n) (made ∷ of_pass pass history) = rw here at apart in
          let none : given_by state n made ≡ [] =
          apart_none n state made.entry.pass made.entry.moment made.entry.act made.session made.short some legal.0
          all.0 in
          rw here (ap (λ first. first ++ given_by_pass (after state made) pass n history) none
          ∙ none_given n pass (after state made) history some legal.1 all.1)
      | inr there ↦ rw there (none_given n pass (after state made) history some legal.1 (rw there at apart))
    ]

-- By records that are of others, or the pass's own of other sessions, the session is given nothing more.
pub given_on : (start : State) → AreDrawn start → (n pass : ℕ) (history more : List Record) →
    IsLegal start (history ++ more) → AreByOwners start (history ++ more) → (n ≡ 0 → ⊥) →
    has_connect n (of_pass pass history) ≡ true → AllByRecursion (IsApart n) (of_pass pass more) →
    given_along start n (history ++ more) ≡ given_along start n history
given_on start drawn n pass history more legal owned some connected apart =
    let connected' : has_connect n (of_pass pass (history ++ more)) ≡ true =
    ap (has_connect n) (of_pass-append pass history more)
    ∙ connect_more n (of_pass pass history) (of_pass pass more) connected in
    given_own n pass start (history ++ more) drawn legal owned connected'
    ∙ given-append start pass n history more
    ∙ ap (λ last. given_by_pass start pass n history ++ last)
    (none_given n pass (state_after start history) more some (legal_tail start history more legal) apart)
    ∙ append-nil (given_by_pass start pass n history)
    ∙ sym (given_own n pass start history drawn (legal_prefix start history more legal)
    (owners_prefix start history more owned) connected)
