-- What one record does to the rows of the sessions.
use Rattle.std.proofs.Common.{◌≡◌, ℕ, ◌+◌, ◌<◌, ◌≤◌, ◌⊎◌, inl, inr, Bool, true, false, cond, ◌&&◌, eqb, ◌==◌, List, []}
use Rattle.std.proofs.Common.{◌∷◌, ◌++◌, Option, Some, None, refl, sym, ap, subst, ◌∙◌, ltb, arith}
use Rattle.std.specs.List.{find}
use Rattle.std.specs.Option.{IsSome, IfSome}
use Rattle.std.proofs.lemmas.Bool.{cases_Bool, eq-eqb, ltb-true}
use Rattle.std.proofs.lemmas.List.Sums.{sum_by-append}
use Rattle.kom_types.specs.declared.limits.TheConstants.{MOST_SESSIONS}
use Rattle.kom_types.specs.declared.acts.Act.{Act}
use Rattle.kom_types.specs.declared.acts.Act.TheVariants as act
use Rattle.kom_types.specs.declared.acts.Record.{Record}
use Rattle.kom_types.specs.declared.answers.NotMade.TheVariants.{Full}
use Rattle.kom_types.specs.declared.decisions.Decision.{Decision}
use Rattle.kom_types.specs.Sessions.{Session, waiting_limits, is_session, after_drain, fresh_session}
use Rattle.kom_links.specs.DeskCalls.{record_of}
use Rattle.kom_links.specs.Records.{is_connect, is_close}
use Rattle.kom_model.specs.State.{State, session_of}
use Rattle.kom_model.specs.Refusal.{call_refused, drain_refused, close_refused, connect_refused}
use Rattle.kom_model.specs.Refusal.{unless_store_refused}
use Rattle.kom_model.specs.After.{MayFollow, moment_of, decision_at, deliveries, after_act, after}
use Rattle.kom_model.specs.Effects.{apply_all}
use Rattle.kom_model.specs.Legal.{IsByOwner}
use Rattle.kom_model.proofs.Finding.{find-added_same, find-added_other, find-removed_other, find-undrawn, drawn-found}
use Rattle.kom_model.proofs.Queueing.{queue_all-rows}
use Rattle.kom_model.proofs.Changing.{make_changes-rows}
use Rattle.kom_model.proofs.Numbers.{drawn-added, drawn-filtered}
use Rattle.hall_desk.specs.Passes.{connects_in}
use Rattle.hall_desk.proofs.Seats.{KeepsSeats, seats-same, seats-changed, seats-queued, seats-changes, AllDrawn}
use Rattle.hall_desk.proofs.Seats.{drawn-seats, IsOwned, owned-seats}

-- ---- why an act may be made

pub possible_call : (refused stopped : Bool) (found : Option Session) →
    unless_store_refused refused (call_refused stopped found) ≡ None → IsSome found
possible_call true stopped found possible = cc
possible_call false stopped None possible = cc
possible_call false stopped (Some row) possible = refl

pub possible_drain : (refused : Bool) (found : Option Session) →
    unless_store_refused refused (drain_refused found) ≡ None → IsSome found
possible_drain true found possible = cc
possible_drain false None possible = cc
possible_drain false (Some row) possible = refl

pub possible_close : (found : Option Session) → close_refused found ≡ None → IsSome found
possible_close None possible = cc
possible_close (Some row) possible = refl

pub possible_connect : (refused stopped : Bool) (connects : ℕ) →
    unless_store_refused refused (connect_refused stopped connects) ≡ None → connects < MOST_SESSIONS
possible_connect true stopped connects possible = cc
possible_connect false true connects possible = cc
possible_connect false false connects possible =
    elim (cases_Bool (ltb connects MOST_SESSIONS)) [
      | inl less ↦ ltb-true _ _ less
      | inr more ↦ let wrong : Some (Full connects) ≡ None = rw more at possible in cc
    ]

-- ---- rows that keep their seats

-- an act that neither connects nor closes a session
abbrev pub IsBetween : Act → Type 0
IsBetween (act.Connect user host) = ⊥
IsBetween (act.Call session reference call) = Unit {0}
IsBetween (act.Broken session) = Unit {0}
IsBetween (act.Drain session) = Unit {0}
IsBetween act.Flush = Unit {0}
IsBetween (act.Close session) = ⊥

-- what an act sends
pub sent-seats : (state : State) (made : Record) →
    KeepsSeats (after_act state made).sessions (after state made).sessions
sent-seats state made = seats-queued waiting_limits (deliveries state made) (after_act state made)

pub acted-seats : (state : State) (pass moment : ℕ) (what : Act) (session : ℕ) (short : Bool) → IsBetween what →
    KeepsSeats state.sessions (after_act state (record_of pass moment what session short)).sessions
acted-seats state pass moment (act.Connect user host) session short between = absurd between
acted-seats state pass moment (act.Call number reference call) session true between = seats-same state.sessions
acted-seats state pass moment (act.Call number reference call) session false between =
    let decision : Decision = decision_at state moment number reference call in
    seats-changes (moment_of state moment) decision.changes
    (record state { db = apply_all decision.effects state.db })
acted-seats state pass moment (act.Broken number) session short between = seats-same state.sessions
acted-seats state pass moment (act.Drain number) session short between =
    seats-changed number (after_drain state.stable) (λ row. (refl, refl, λ ended. ended)) state.sessions
acted-seats state pass moment act.Flush session true between = seats-same state.sessions
acted-seats state pass moment act.Flush session false between = seats-same state.sessions
acted-seats state pass moment (act.Close number) session short between = absurd between

-- ---- how many sessions were connected

abbrev connecting : Record → ℕ
connecting made = cond (is_connect made.entry.act) 1 0

connects-sent : (state : State) (made : Record) → (after state made).connects ≡ (after_act state made).connects
connects-sent state made =
    ap (λ s. s.connects) (queue_all-rows waiting_limits (deliveries state made) (after_act state made))

connects-acted : (state : State) (pass moment : ℕ) (what : Act) (session : ℕ) (short : Bool) →
    (after_act state (record_of pass moment what session short)).connects
    ≡ state.connects + connecting (record_of pass moment what session short)
connects-acted state pass moment (act.Connect user host) session short = omega arith
connects-acted state pass moment (act.Call number reference call) session true = omega arith
connects-acted state pass moment (act.Call number reference call) session false =
    let decision : Decision = decision_at state moment number reference call in
    let start : State = record state { db = apply_all decision.effects state.db } in
    let same = ap (λ s. s.connects) (make_changes-rows (moment_of state moment) decision.changes start) in
    same ∙ omega arith
connects-acted state pass moment (act.Broken number) session short = omega arith
connects-acted state pass moment (act.Drain number) session short = omega arith
connects-acted state pass moment act.Flush session true = omega arith
connects-acted state pass moment act.Flush session false = omega arith
connects-acted state pass moment (act.Close number) session short = omega arith

pub connects-after : (state : State) (made : Record) →
    (after state made).connects ≡ state.connects + connects_in (made ∷ [])
connects-after state made =
    let one : connects_in (made ∷ []) ≡ connecting made = omega arith in
    connects-sent state made
    ∙ connects-acted state made.entry.pass made.entry.moment made.entry.act made.session made.short
    ∙ ap (λ n. state.connects + n) (sym one)

pub connects_in-append : (a b : List Record) → connects_in (a ++ b) ≡ connects_in a + connects_in b
connects_in-append a b = sum_by-append connecting a b

-- a Connect is made while numbers are left
pub within_step : (state : State) (pass moment : ℕ) (what : Act) (session : ℕ) (short : Bool) →
    MayFollow state (record_of pass moment what session short) → state.connects ≤ MOST_SESSIONS →
    (after state (record_of pass moment what session short)).connects ≤ MOST_SESSIONS
within_step state pass moment (act.Connect user host) session short may within =
    let less : state.connects < MOST_SESSIONS =
    possible_connect state.store_refused state.stopped state.connects may.possible in
    let more = connects-after state (record_of pass moment (act.Connect user host) session short) in
    omega (arith, more)
within_step state pass moment (act.Call number reference call) session short may within =
    omega (arith, connects-after state (record_of pass moment (act.Call number reference call) session short))
within_step state pass moment (act.Broken number) session short may within =
    omega (arith, connects-after state (record_of pass moment (act.Broken number) session short))
within_step state pass moment (act.Drain number) session short may within =
    omega (arith, connects-after state (record_of pass moment (act.Drain number) session short))
within_step state pass moment act.Flush session short may within =
    omega (arith, connects-after state (record_of pass moment act.Flush session short))
within_step state pass moment (act.Close number) session short may within =
    omega (arith, connects-after state (record_of pass moment (act.Close number) session short))

-- ---- all numbers were drawn

abbrev pub AreDrawn : State → Type 0
AreDrawn state = AllDrawn state.connects state.sessions

drawn_between : (state : State) (pass moment : ℕ) (what : Act) (session : ℕ) (short : Bool) → IsBetween what →
    is_connect what ≡ false → AreDrawn state →
    AllDrawn (after state (record_of pass moment what session short)).connects
    (after_act state (record_of pass moment what session short)).sessions
drawn_between state pass moment what session short between none drawn =
    let made : Record = record_of pass moment what session short in
    let more : (after state made).connects ≡ state.connects + connects_in (made ∷ []) = connects-after state made in
    let one : connects_in (made ∷ []) ≡ connecting made = omega arith in
    let zero : connecting made ≡ 0 = rw none refl in
    let same : (after state made).connects ≡ state.connects = omega arith in
    subst (λ (bound : ℕ). AllDrawn bound (after_act state made).sessions) (sym same)
    (drawn-seats state.connects _ _ (acted-seats state pass moment what session short between) drawn)

acted-drawn : (state : State) (pass moment : ℕ) (what : Act) (session : ℕ) (short : Bool) → AreDrawn state →
    AllDrawn (after state (record_of pass moment what session short)).connects
    (after_act state (record_of pass moment what session short)).sessions
acted-drawn state pass moment (act.Connect user host) session short drawn =
    let made : Record = record_of pass moment (act.Connect user host) session short in
    subst (λ (bound : ℕ). AllDrawn bound (after_act state made).sessions) (sym (connects-sent state made))
    (drawn-added state.connects _ refl state.sessions drawn)
acted-drawn state pass moment (act.Close number) session short drawn =
    let made : Record = record_of pass moment (act.Close number) session short in
    subst (λ (bound : ℕ). AllDrawn bound (after_act state made).sessions) (sym (connects-sent state made))
    (drawn-filtered state.connects _ state.sessions drawn)
acted-drawn state pass moment (act.Call number reference call) session short drawn =
    drawn_between state pass moment (act.Call number reference call) session short tt refl drawn
acted-drawn state pass moment (act.Broken number) session short drawn =
    drawn_between state pass moment (act.Broken number) session short tt refl drawn
acted-drawn state pass moment (act.Drain number) session short drawn =
    drawn_between state pass moment (act.Drain number) session short tt refl drawn
acted-drawn state pass moment act.Flush session short drawn =
    drawn_between state pass moment act.Flush session short tt refl drawn

pub drawn-after : (state : State) (made : Record) → AreDrawn state → AreDrawn (after state made)
drawn-after state made drawn =
    drawn-seats (after state made).connects _ _ (sent-seats state made)
    (acted-drawn state made.entry.pass made.entry.moment made.entry.act made.session made.short drawn)

-- ---- who stands

-- the session of an act that names one stands
pub acting_stands : (state : State) (pass moment : ℕ) (what : Act) (session : ℕ) (short : Bool) →
    MayFollow state (record_of pass moment what session short) → is_connect what ≡ false → (what ≡ act.Flush → ⊥) →
    IsSome (session_of session state)
acting_stands state pass moment (act.Connect user host) session short may other some = cc
acting_stands state pass moment (act.Call number reference call) session short may other some =
    rw may.session (possible_call _ _ _ may.possible)
acting_stands state pass moment (act.Broken number) session short may other some =
    rw may.session (possible_call _ _ _ may.possible)
acting_stands state pass moment (act.Drain number) session short may other some =
    rw may.session (possible_drain _ _ may.possible)
acting_stands state pass moment act.Flush session short may other some = absurd (some refl)
acting_stands state pass moment (act.Close number) session short may other some =
    rw may.session (possible_close _ may.possible)

-- the pass has the session: it stands, and this pass connected it
abbrev pub Has : ℕ → ℕ → State → Type 0
Has n pass state = IsOwned n pass (session_of n state)

-- the pass has it, or this test says that the pass connects it now
abbrev pub HasOr : ℕ → ℕ → State → Bool → Type 0
HasOr n pass state now = Has n pass state ⊎ (now ≡ true)

pub has_before : (n pass : ℕ) (state : State) → HasOr n pass state false → Has n pass state
has_before n pass state (inl has) = has
has_before n pass state (inr now) = cc

sent_has : (n pass : ℕ) (state : State) (made : Record) → Has n pass (after_act state made) →
    Has n pass (after state made)
sent_has n pass state made has = owned-seats n pass _ _ (sent-seats state made) has

pub owned_some : (n pass : ℕ) (found : Option Session) → IsOwned n pass found → IsSome found
owned_some n pass None owned = let wrong : None ≡ Some owned.0 = owned.1 in cc
owned_some n pass (Some row) owned = refl

-- whose session it is
pub one_owner : (n pass other : ℕ) (found : Option Session) → IsOwned n pass found →
    IfSome found (λ row. row.seat.pass ≡ other) → pass ≡ other
one_owner n pass other None owned by_other = let wrong : None ≡ Some owned.0 = owned.1 in cc
one_owner n pass other (Some row) owned by_other =
    let found : Some row ≡ Some owned.0 = owned.1 in
    let same : row ≡ owned.0 = cc in
    sym owned.2 ∙ ap (λ (row : Session). row.seat.pass) (sym same) ∙ by_other

pub by_owner : (n pass : ℕ) (found : Option Session) → IsOwned n pass found →
    IfSome found (λ row. row.seat.pass ≡ pass)
by_owner n pass None owned = tt
by_owner n pass (Some row) owned =
    let found : Some row ≡ Some owned.0 = owned.1 in
    let same : row ≡ owned.0 = cc in
    ap (λ (row : Session). row.seat.pass) same ∙ owned.2

between_has : (n pass : ℕ) (state : State) (by moment : ℕ) (what : Act) (session : ℕ) (short : Bool) →
    IsBetween what → Has n pass state → Has n pass (after state (record_of by moment what session short))
between_has n pass state by moment what session short between has =
    sent_has n pass state (record_of by moment what session short)
    (owned-seats n pass _ _ (acted-seats state by moment what session short between) has)

-- a session that was connected by another act stays
added_has : (n pass : ℕ) (state : State) (row : Session) → row.seat.number ≡ state.connects + 1 → AreDrawn state →
    Has n pass state → IsOwned n pass (find (is_session n) (state.sessions ++ row ∷ []))
added_has n pass state row number drawn has =
    let below : n ≤ state.connects =
    drawn-found n state.connects state.sessions drawn (owned_some n pass (session_of n state) has) in
    let other : n ≡ row.seat.number → ⊥ = λ e. omega arith in
    rw (find-added_other n row other state.sessions) has

-- the session that is connected now is the pass's
connected_has : (state : State) (row : Session) → row.seat.number ≡ state.connects + 1 → AreDrawn state →
    IsOwned row.seat.number row.seat.pass (find (is_session row.seat.number) (state.sessions ++ row ∷ []))
connected_has state row number drawn =
    let undrawn : find (is_session row.seat.number) state.sessions ≡ None =
    find-undrawn state.connects row.seat.number (λ below. omega (arith, below, number)) state.sessions drawn in
    rw (find-added_same row state.sessions undrawn) (row, refl, refl)

-- a Connect of this pass
pub connects_now : (pass : ℕ) (state : State) (moment : ℕ) (user host : List ℕ) (session : ℕ) (short : Bool) →
    AreDrawn state → MayFollow state (record_of pass moment (act.Connect user host) session short) →
    Has session pass (after state (record_of pass moment (act.Connect user host) session short))
connects_now pass state moment user host session short drawn may =
    let made : Record = record_of pass moment (act.Connect user host) session short in
    let row : Session = fresh_session (state.connects + 1) pass user host (moment_of state moment) in
    sent_has session pass state made
    (rw may.session (connected_has state row refl drawn))

-- the pass has a session still after a record that does not close it
pub has_step : (n pass : ℕ) (state : State) (by moment : ℕ) (what : Act) (session : ℕ) (short : Bool) →
    AreDrawn state → MayFollow state (record_of by moment what session short) →
    IsByOwner state (record { pass = by; moment = moment; act = what }) → Has n pass state →
    (by ≡ pass → (is_close what && (session == n)) ≡ false) →
    Has n pass (after state (record_of by moment what session short))
has_step n pass state by moment (act.Connect user host) session short drawn may owner has open' =
    sent_has n pass state (record_of by moment (act.Connect user host) session short)
    (added_has n pass state (fresh_session (state.connects + 1) by user host (moment_of state moment)) refl drawn has)
has_step n pass state by moment (act.Call number reference call) session short drawn may owner has open' =
    between_has n pass state by moment (act.Call number reference call) session short tt has
has_step n pass state by moment (act.Broken number) session short drawn may owner has open' =
    between_has n pass state by moment (act.Broken number) session short tt has
has_step n pass state by moment (act.Drain number) session short drawn may owner has open' =
    between_has n pass state by moment (act.Drain number) session short tt has
has_step n pass state by moment act.Flush session short drawn may owner has open' =
    between_has n pass state by moment act.Flush session short tt has
has_step n pass state by moment (act.Close number) session short drawn may owner has open' =
    let other : n ≡ number → ⊥ =
    λ e. let owned : IfSome (session_of n state) (λ row. row.seat.pass ≡ by) = rw e owner in
    let same : pass ≡ by = one_owner n pass by (session_of n state) has owned in
    let here : eqb session n ≡ true = eq-eqb _ _ (may.session ∙ sym e) in
    let no : eqb session n ≡ false = open' (sym same) in
    cc in
    sent_has n pass state (record_of by moment (act.Close number) session short)
    (rw (find-removed_other number n other state.sessions) has)

-- ---- numbers are drawn in order

pub stands_drawn : (n : ℕ) (state : State) → AreDrawn state → IsSome (session_of n state) → n ≤ state.connects
stands_drawn n state drawn stands = drawn-found n state.connects state.sessions drawn stands

grown : (state : State) (made : Record) → state.connects ≤ (after state made).connects
grown state made = omega (arith, connects-after state made)

drawn_acting : (state : State) (pass moment : ℕ) (what : Act) (session : ℕ) (short : Bool) → AreDrawn state →
    MayFollow state (record_of pass moment what session short) → is_connect what ≡ false → (what ≡ act.Flush → ⊥) →
    session ≤ (after state (record_of pass moment what session short)).connects
drawn_acting state pass moment what session short drawn may other some =
    let drawn : session ≤ state.connects =
    stands_drawn session state drawn (acting_stands state pass moment what session short may other some) in
    omega (arith, grown state (record_of pass moment what session short))

pub drawn_step : (state : State) (pass moment : ℕ) (what : Act) (session : ℕ) (short : Bool) → AreDrawn state →
    MayFollow state (record_of pass moment what session short) →
    session ≤ (after state (record_of pass moment what session short)).connects
drawn_step state pass moment (act.Connect user host) session short drawn may =
    omega (arith, may.session, connects-after state (record_of pass moment (act.Connect user host) session short))
drawn_step state pass moment (act.Call number reference call) session short drawn may =
    drawn_acting state pass moment (act.Call number reference call) session short drawn may refl (λ e. cc)
drawn_step state pass moment (act.Broken number) session short drawn may =
    drawn_acting state pass moment (act.Broken number) session short drawn may refl (λ e. cc)
drawn_step state pass moment (act.Drain number) session short drawn may =
    drawn_acting state pass moment (act.Drain number) session short drawn may refl (λ e. cc)
drawn_step state pass moment act.Flush session short drawn may = omega (arith, may.session)
drawn_step state pass moment (act.Close number) session short drawn may =
    drawn_acting state pass moment (act.Close number) session short drawn may refl (λ e. cc)
