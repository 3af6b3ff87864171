-- A session stays strong along the calls of a sweep.
use Rattle.std.proofs.Common.{◌≡◌, ℕ, ◌+◌, ◌≤◌, ◌==◌, Bool, true, false, cond, not, ◌&&◌, List, [], ◌∷◌, ◌++◌}
use Rattle.std.proofs.Common.{Option, Some, None, refl, sym, ap, ap₂, ◌∙◌, subst, inl, inr, ◌⊎◌, true≢false, nat_lt}
use Rattle.std.proofs.Common.{arith}
use Rattle.std.specs.Prelude.{map, IsSome}
use Rattle.std.specs.List.{find, filter}
use Rattle.std.specs.Option.{option_or}
use Rattle.std.proofs.lemmas.Bool.{cond_both}
use Rattle.std.proofs.lemmas.List.{map-append}
use Rattle.std.proofs.lemmas.List.Folds.{find-append}
use Rattle.kom_types.specs.declared.acts.Act.{Act}
use Rattle.kom_types.specs.declared.acts.Act.TheVariants as act
use Rattle.kom_types.specs.declared.acts.Record.{Record}
use Rattle.kom_types.specs.declared.answers.NotMade.{NotMade}
use Rattle.kom_types.specs.declared.calls.Call.{Call}
use Rattle.kom_types.specs.declared.calls.Call.TheVariants as call
use Rattle.kom_types.specs.declared.conferences.ConferenceRow.{ConferenceRow}
use Rattle.kom_types.specs.declared.decisions.Decision.{Decision}
use Rattle.kom_types.specs.declared.items.Item.{Item}
use Rattle.kom_types.specs.declared.persons.PersonRow.{PersonRow}
use Rattle.kom_types.specs.declared.seats.Seat.{Seat}
use Rattle.kom_types.specs.declared.session_changes.SessionChange.{SessionChange}
use Rattle.kom_types.specs.declared.texts.TextRow.{TextRow}
use Rattle.kom_types.specs.Sessions.{Session, Limits, waiting_limits, is_session, queue, fits, with_waiting}
use Rattle.kom_types.specs.Sessions.{after_drain}
use Rattle.kom_types.specs.Sessions.{fresh_session}
use Rattle.kom_types.specs.tables.Persons.{is_mighty}
use Rattle.kom_model.specs.After.{after, after_act, deliveries, queue_all, with_session, MayFollow}
use Rattle.kom_model.specs.After.{moment_of, make_changes, decision_at}
use Rattle.kom_model.specs.Db.{Db, person_of, conferences_of, texts_of}
use Rattle.kom_model.specs.Decide.{asked_in, decision_of, definition_of}
use Rattle.kom_model.specs.Effects.{apply_all}
use Rattle.kom_model.specs.Refusal.{IsPossible, unless_store_refused, call_refused, drain_refused}
use Rattle.kom_model.specs.Refusal.{close_refused}
use Rattle.kom_model.specs.Sending.{Delivery}
use Rattle.kom_model.specs.State.{State, IsSound, seats_of, session_of}
use Rattle.kom_model.specs.Viewers.{has_might}
use Rattle.kom_model.specs.calls.Call.{Asked}
use Rattle.kom_model.specs.calls.Conferences.{nearest, first_seen}
use Rattle.kom_model.specs.calls.Guards.{viewer_at}
use Rattle.kom_model.specs.calls.Texts.{nearest_text, first_read}
use Rattle.kom_model.proofs.Deciding.{decision-meets}
use Rattle.kom_model.proofs.Finding.{find-removed_same, drawn-found}
use Rattle.kom_model.proofs.whole.Found.{find-mapped}
use Rattle.kom_laws.proofs.masking.Rows.{told}
use Rattle.sweep_laws.specs.Leaving.{passes, is_other_call}
use Rattle.sweep_laws.specs.Swept.{IsOf}
use Rattle.sweep_laws.specs.Without.{without_logins}
use Rattle.sweep_laws.proofs.Deleting.{deletion-leaves}
use Rattle.sweep_laws.proofs.Found.{told-map}
use Rattle.sweep_laws.proofs.Others.{other-leaves}

-- ---- calls that change no session
-- the calls of both walks, delete-text, and sync-kom
abbrev pub is_quiet : Call → Bool
is_quiet call.SyncKom = true
is_quiet (call.FindNextConfNo start) = true
is_quiet (call.GetConfStat conference) = true
is_quiet (call.GetPersonStat person) = true
is_quiet (call.FindNextTextNo start) = true
is_quiet (call.GetTextStat text) = true
is_quiet (call.DeleteText text) = true
is_quiet _ = false

conference-quiet : (asked : Asked) (start : ℕ) (found : Option ConferenceRow) →
    (nearest asked start found).rest.changes ≡ []
conference-quiet asked start None = refl
conference-quiet asked start (Some row) = refl

text-quiet : (asked : Asked) (start : ℕ) (found : Option TextRow) → (nearest_text asked start found).rest.changes ≡ []
text-quiet asked start None = refl
text-quiet asked start (Some row) = refl

pub rest-quiet : (asked : Asked) (what : Call) → is_quiet what ≡ true → (definition_of asked what).rest.changes ≡ []
rest-quiet asked call.SyncKom is = refl
rest-quiet asked (call.FindNextConfNo start) is = conference-quiet asked start
    (first_seen asked (λ row. nat_lt start row.number) (conferences_of asked.db))
rest-quiet asked (call.GetConfStat conference) is = refl
rest-quiet asked (call.GetPersonStat person) is = refl
rest-quiet asked (call.FindNextTextNo start) is =
    text-quiet asked start (first_read asked (λ row. nat_lt start row.number) (texts_of asked.db))
rest-quiet asked (call.GetTextStat text) is = refl
rest-quiet asked (call.DeleteText text) is = refl
rest-quiet asked other is = absurd (true≢false (sym is))

pub no-changes : (asked : Asked) (what : Call) → is_quiet what ≡ true → (decision_of asked what).changes ≡ []
no-changes asked what is = decision-meets (λ (decision : Decision). decision.changes ≡ []) (λ why. refl) asked what
    (λ passes. rest-quiet asked what is)

-- ---- seats
same-seats : (number : ℕ) (change : Session → Session) → ((row : Session) → (change row).seat ≡ row.seat) →
    (rows : List Session) →
    map (λ row. row.seat) (map (λ row. cond (is_session number row) (change row) row) rows) ≡ map (λ row. row.seat) rows
same-seats number change keeps [] = refl
same-seats number change keeps (row ∷ rows) =
    ap₂ (λ (first : Seat) (rest : List Seat). first ∷ rest)
    (cond_both (is_session number row) (change row) row (λ (one : Session). one.seat ≡ row.seat)
    (λ _. keeps row) (λ _. refl)) (same-seats number change keeps rows)

pub queued-seat : (limits : Limits) (place : ℕ) (item : Item) (row : Session) →
    (queue limits place item row).seat ≡ row.seat
queued-seat limits place item row =
    cond_both row.overrun row
    (cond (fits limits row.waiting item) (with_waiting item place row) (record row { overrun = true }))
    (λ (one : Session). one.seat ≡ row.seat) (λ _. refl)
    (λ _. cond_both (fits limits row.waiting item) (with_waiting item place row) (record row { overrun = true })
    (λ (one : Session). one.seat ≡ row.seat) (λ _. refl) (λ _. refl))

queue_all-seats : (limits : Limits) (deliveries : List Delivery) (state : State) →
    seats_of (queue_all limits deliveries state) ≡ seats_of state
queue_all-seats limits [] state = refl
queue_all-seats limits (delivery ∷ deliveries) state =
    queue_all-seats limits deliveries (with_session delivery.session (queue limits state.entries delivery.item) state)
    ∙ same-seats delivery.session (queue limits state.entries delivery.item)
    (queued-seat limits state.entries delivery.item) state.sessions

-- what an act sends leaves the seats
seats-sent : (state : State) (made : Record) → seats_of (after state made) ≡ seats_of (after_act state made)
seats-sent state made = queue_all-seats waiting_limits (deliveries state made) (after_act state made)

called-seats : (state : State) (pass moment number reference : ℕ) (what : Call) (session : ℕ) (short : Bool) →
    is_quiet what ≡ true → seats_of (after_act state (record {
      entry = record { pass = pass; moment = moment; act = act.Call number reference what };
      session = session;
      short = short;
    })) ≡ seats_of state
called-seats state pass moment number reference what session true is = refl
called-seats state pass moment number reference what session false is =
    let decision : Decision = decision_at state moment number reference what in
    ap (λ (changes : List SessionChange). seats_of (make_changes (moment_of state moment) changes
    (record state { db = apply_all decision.effects state.db })))
    (no-changes (asked_in state (moment_of state moment) number reference) what is)

-- ---- strength
abbrev pub seat_in : ℕ → State → Option Seat
seat_in session state = find (λ seat. seat.number == session) (seats_of state)

-- the session is there, and strong
abbrev pub IsStrong : ℕ → State → Type 0
IsStrong session state = (viewer_at state.db (seat_in session state)).strong ≡ true

-- the session was there, and is no more
abbrev pub IsGone : ℕ → State → Type 0
IsGone session state = (session_of session state ≡ None) × (session ≤ state.connects)

abbrev pub Holds : ℕ → State → Type 0
Holds session state = IsStrong session state ⊎ IsGone session state

might-as : (db : Db) (person : ℕ) → has_might db person ≡ told false (λ (row : PersonRow). is_mighty row.privileges)
    (find (λ row. row.number == person) (map without_logins db.persons))
unfolding person_of
might-as db person =
    sym (told-map false without_logins (λ (row : PersonRow). is_mighty row.privileges)
    (find (λ row. row.number == person) db.persons))
    ∙ ap (told false (λ (row : PersonRow). is_mighty row.privileges))
    (sym (find-mapped (λ (row : PersonRow). row.number == person) without_logins (λ row. refl) db.persons))

-- the persons are the same but for their logins
abbrev pub SamePersons : Db → Db → Type 0
SamePersons old new = map without_logins new.persons ≡ map without_logins old.persons

might-kept : (old new : Db) (person : ℕ) → SamePersons old new → has_might new person ≡ has_might old person
might-kept old new person same =
    might-as new person
    ∙ ap (λ (rows : List PersonRow). told false (λ (row : PersonRow). is_mighty row.privileges)
    (find (λ row. row.number == person) rows)) same
    ∙ sym (might-as old person)

viewer-kept : (old new : Db) (seat : Option Seat) → SamePersons old new →
    (viewer_at new seat).strong ≡ (viewer_at old seat).strong
viewer-kept old new None same = refl
viewer-kept old new (Some seat) same = ap (λ (might : Bool). seat.level == 255 && might)
    (might-kept old new seat.person same)

strong-kept : (session : ℕ) (old new : State) → seat_in session new ≡ seat_in session old →
    SamePersons old.db new.db → IsStrong session old → IsStrong session new
strong-kept session old new seats persons strong =
    ap (λ (seat : Option Seat). (viewer_at new.db seat).strong) seats
    ∙ viewer-kept old.db new.db (seat_in session old) persons ∙ strong

strong-seat : (db : Db) (seat : Option Seat) → (viewer_at db seat).strong ≡ true → (one : Seat) × (seat ≡ Some one)
strong-seat db None strong = absurd (true≢false (sym strong))
strong-seat db (Some seat) strong = (seat, refl)

-- another seat at the end
added-seat : (session : ℕ) (state : State) (more : Session) → IsStrong session state →
    find (λ seat. seat.number == session) (map (λ row. row.seat) (state.sessions ++ more ∷ [])) ≡ seat_in session state
added-seat session state more strong =
    let one = strong-seat state.db (seat_in session state) strong in
    ap (find (λ seat. seat.number == session)) (map-append (λ (row : Session). row.seat) state.sessions (more ∷ []))
    ∙ find-append (λ (seat : Seat). seat.number == session) (seats_of state) (more.seat ∷ [])
    ∙ ap (λ (found : Option Seat). option_or found (find (λ (seat : Seat). seat.number == session) (more.seat ∷ [])))
    one.1 ∙ sym one.1

-- ---- who is gone does nothing
not-possible : (store_refused : Bool) (why : NotMade) → unless_store_refused store_refused (Some why) ≡ None → ⊥
not-possible true why is = cc
not-possible false why is = cc

call-absent : (store_refused stopped : Bool) (found : Option Session) → found ≡ None →
    unless_store_refused store_refused (call_refused stopped found) ≡ None → ⊥
call-absent store_refused stopped None none is = not-possible store_refused _ is
call-absent store_refused stopped (Some row) none is = cc

drain-absent : (store_refused : Bool) (found : Option Session) → found ≡ None →
    unless_store_refused store_refused (drain_refused found) ≡ None → ⊥
drain-absent store_refused None none is = not-possible store_refused _ is
drain-absent store_refused (Some row) none is = cc

close-absent : (found : Option Session) → found ≡ None → close_refused found ≡ None → ⊥
close-absent None none is = cc
close-absent (Some row) none is = cc

close-there : (found : Option Session) → close_refused found ≡ None → IsSome found
close-there None is = absurd cc
close-there (Some row) is = refl

-- ---- one act
abbrev pub made_so : ℕ → ℕ → Act → ℕ → Bool → Record
made_so pass moment what session short = record {
  entry = record { pass = pass; moment = moment; act = what };
  session = session;
  short = short;
}

-- an act of the session, by its own number
of-session : (session number : ℕ) (what : Act) → number ≡ session ⊎ (what ≡ act.Flush) → (what ≡ act.Flush → ⊥) →
    number ≡ session
of-session session number what (inl same) other = same
of-session session number what (inr flush) other = absurd (other flush)

persons-other : (state : State) (made : Record) → passes is_other_call made.entry.act ≡ true →
    SamePersons state.db (after state made).db
persons-other state made is = (other-leaves state made is).persons

persons-called : (state : State) (pass moment number reference : ℕ) (what : Call) (session : ℕ) (short : Bool) →
    IsSound state → is_quiet what ≡ true →
    SamePersons state.db (after state (made_so pass moment (act.Call number reference what) session short)).db
persons-called state pass moment number reference (call.DeleteText text) session short sound is =
    let made : Record = made_so pass moment (act.Call number reference (call.DeleteText text)) session short in
    ap (λ (db : Db). map without_logins db.persons) (deletion-leaves state made text sound.whole refl)
persons-called state pass moment number reference call.SyncKom session short sound is =
    persons-other state (made_so pass moment (act.Call number reference call.SyncKom) session short) refl
persons-called state pass moment number reference (call.FindNextConfNo start) session short sound is =
    persons-other state (made_so pass moment (act.Call number reference (call.FindNextConfNo start)) session short) refl
persons-called state pass moment number reference (call.GetConfStat conference) session short sound is = persons-other
    state (made_so pass moment (act.Call number reference (call.GetConfStat conference)) session short) refl
persons-called state pass moment number reference (call.GetPersonStat person) session short sound is =
    persons-other state (made_so pass moment (act.Call number reference (call.GetPersonStat person)) session short) refl
persons-called state pass moment number reference (call.FindNextTextNo start) session short sound is =
    persons-other state (made_so pass moment (act.Call number reference (call.FindNextTextNo start)) session short) refl
persons-called state pass moment number reference (call.GetTextStat text) session short sound is =
    persons-other state (made_so pass moment (act.Call number reference (call.GetTextStat text)) session short) refl
persons-called state pass moment number reference other session short sound is = absurd (true≢false (sym is))

flushed-seats : (state : State) (pass moment session : ℕ) (short : Bool) →
    seats_of (after_act state (made_so pass moment act.Flush session short)) ≡ seats_of state
flushed-seats state pass moment session true = refl
flushed-seats state pass moment session false = refl

flushed-gone : (session : ℕ) (state : State) (pass moment number : ℕ) (short : Bool) → IsGone session state →
    IsGone session (after state (made_so pass moment act.Flush number short))
flushed-gone session state pass moment number true gone = gone
flushed-gone session state pass moment number false gone = gone

module _ (session : ℕ) (state : State) (pass moment number : ℕ) (short : Bool) (sound : IsSound state) where
  step-holds : (what : Act) → let made : Record = made_so pass moment what number short in
      MayFollow state made → IsOf session made → passes is_quiet what ≡ true → Holds session state →
      Holds session (after state made)
  step-holds (act.Connect user host) may of is (inl strong) =
      let made : Record = made_so pass moment (act.Connect user host) number short in
      inl (strong-kept session state (after state made)
      (ap (find (λ seat. seat.number == session)) (seats-sent state made)
      ∙ added-seat session state (fresh_session (state.connects + 1) pass user host (moment_of state moment)) strong)
      (persons-other state made refl) strong)
  step-holds (act.Connect user host) may of is (inr gone) =
      let same : number ≡ session = of-session session number (act.Connect user host) of (λ flush. cc) in
      let drawn : number ≡ state.connects + 1 = may.session in
      let below : session ≤ state.connects = gone.1 in
      absurd (omega arith)
  step-holds (act.Call one reference what) may of is (inl strong) =
      let made : Record = made_so pass moment (act.Call one reference what) number short in
      inl (strong-kept session state (after state made)
      (ap (find (λ seat. seat.number == session)) (seats-sent state made
      ∙ called-seats state pass moment one reference what number short is))
      (persons-called state pass moment one reference what number short sound is) strong)
  step-holds (act.Call one reference what) may of is (inr gone) =
      let same : one ≡ session =
      sym may.session ∙ of-session session number (act.Call one reference what) of (λ flush. cc) in
      absurd (call-absent state.store_refused state.stopped (session_of one state)
      (ap (λ (n : ℕ). session_of n state) same ∙ gone.0) may.possible)
  step-holds (act.Broken one) may of is (inl strong) =
      let made : Record = made_so pass moment (act.Broken one) number short in
      inl (strong-kept session state (after state made)
      (ap (find (λ seat. seat.number == session)) (seats-sent state made)) (persons-other state made refl) strong)
  step-holds (act.Broken one) may of is (inr gone) =
      let same : one ≡ session = sym may.session ∙ of-session session number (act.Broken one) of (λ flush. cc) in
      absurd (call-absent state.store_refused state.stopped (session_of one state)
      (ap (λ (n : ℕ). session_of n state) same ∙ gone.0) may.possible)
  step-holds (act.Drain one) may of is (inl strong) =
      let made : Record = made_so pass moment (act.Drain one) number short in
      inl (strong-kept session state (after state made)
      (ap (find (λ seat. seat.number == session)) (seats-sent state made
      ∙ same-seats one (after_drain state.stable) (λ row. refl) state.sessions)) (persons-other state made refl) strong)
  step-holds (act.Drain one) may of is (inr gone) =
      let same : one ≡ session = sym may.session ∙ of-session session number (act.Drain one) of (λ flush. cc) in
      absurd (drain-absent state.store_refused (session_of one state)
      (ap (λ (n : ℕ). session_of n state) same ∙ gone.0) may.possible)
  step-holds act.Flush may of is (inl strong) =
      let made : Record = made_so pass moment act.Flush number short in
      inl (strong-kept session state (after state made)
      (ap (find (λ seat. seat.number == session)) (seats-sent state made
      ∙ flushed-seats state pass moment number short)) (persons-other state made refl) strong)
  step-holds act.Flush may of is (inr gone) = inr (flushed-gone session state pass moment number short gone)
  step-holds (act.Close one) may of is (inl strong) =
      let same : one ≡ session = sym may.session ∙ of-session session number (act.Close one) of (λ flush. cc) in
      let below : one ≤ state.connects = drawn-found one state.connects state.sessions sound.drawn
      (close-there (session_of one state) may.possible) in
      inr (
        subst (λ (n : ℕ). find (is_session n) (filter (λ row. not (is_session one row)) state.sessions) ≡ None) same
            (find-removed_same one state.sessions),
        subst (λ (n : ℕ). n ≤ state.connects) same below,
      )
  step-holds (act.Close one) may of is (inr gone) =
      let same : one ≡ session = sym may.session ∙ of-session session number (act.Close one) of (λ flush. cc) in
      absurd (close-absent (session_of one state) (ap (λ (n : ℕ). session_of n state) same ∙ gone.0) may.possible)

pub holds-after : (session : ℕ) (state : State) (made : Record) → IsSound state → MayFollow state made →
    IsOf session made → passes is_quiet made.entry.act ≡ true → Holds session state → Holds session (after state made)
holds-after session state made sound may of is holds =
    step-holds session state made.entry.pass made.entry.moment made.session made.short sound made.entry.act may of is
    holds

-- the session is strong where it makes a call
pub strong-call : (session : ℕ) (state : State) (number reference : ℕ) (what : Call) → number ≡ session →
    IsPossible state (act.Call number reference what) → Holds session state → IsStrong number state
strong-call session state number reference what same possible (inl strong) =
    subst (λ (n : ℕ). IsStrong n state) (sym same) strong
strong-call session state number reference what same possible (inr gone) =
    absurd (call-absent state.store_refused state.stopped (session_of number state)
    (ap (λ (n : ℕ). session_of n state) same ∙ gone.0) possible)
