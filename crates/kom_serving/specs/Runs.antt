-- What a run leaves that serves gates, one for each of its passes.
use Rattle.std.specs.Prelude.{◌≡◌, ◌≢◌, ℕ, ◌+◌, ◌^◌, ◌<◌, ◌≤◌, ◌==◌, ◌⊎◌, ◌&&◌, nat_eq, nat_lt}
use Rattle.std.specs.Prelude.{Bool}
use Rattle.std.specs.Prelude.{true, false, not, IsTrue, List, [], ◌∷◌, length, map, filter}
use Rattle.std.specs.Prelude.{flat_map}
use Rattle.std.specs.Prelude.{Option, ◌++◌, Some, None, IfSome, zero, suc}
use Rattle.std.specs.List.{list_any, AllByRecursion, IsDistinct}
use Rattle.kom_types.specs.declared.acts.Act.{Act}
use Rattle.kom_types.specs.declared.acts.Act.TheVariants as act
use Rattle.kom_types.specs.declared.acts.Record.{Record}
use Rattle.kom_types.specs.declared.items.Item.{Item}
use Rattle.kom_types.specs.Reading.{fault_of}
use Rattle.kom_links.specs.declared.world_counts.WorldCounts.{WorldCounts}
use Rattle.kom_links.specs.WorldCounts.{with_port, with_gate, with_clock}
use Rattle.kom_links.specs.declared.served.Served.{Served}
use Rattle.kom_links.specs.declared.served.SessionEnd.{SessionEnd}
use Rattle.kom_links.specs.declared.served.SessionEnd.TheVariants as end
use Rattle.kom_links.specs.Doors.{GateView}
use Rattle.kom_links.specs.Outside.{LinkView}
use Rattle.kom_links.specs.Records.{has_connect}
use Rattle.kom_links.specs.Talk.{IsTalk, IsChosen}
use Rattle.kom_model.specs.State.{State, IsSound}
use Rattle.kom_model.specs.Legal.{IsLegal, AreByOwners}
use Rattle.kom_model.specs.Out.{out_of, given_along}
use Rattle.kom_model.specs.Laws.{all_given, IsPrefix as IsItemPrefix}
use Rattle.kom_session.specs.Ends.{HasCarried}
use Rattle.hall_desk.specs.Passes.{of_pass}
use Rattle.hall_desk.specs.Desks.{WasOverrun, WasDropped, WasStopped, WasFull}

-- what the drains of a session give along a history that begins in this state; of no session,
-- nothing
abbrev pub given_of : State → ℕ → List Record → List (List Item)
given_of start session history =
    elim (session == 0) [ true ↦ [] | false ↦ given_along start session history ]

abbrev pub is_call : Act → Bool
is_call (act.Connect user host) = false
is_call (act.Call session reference call) = true
is_call (act.Broken session) = false
is_call (act.Drain session) = false
is_call act.Flush = false
is_call (act.Close session) = false

-- these records have a call of the session
abbrev pub has_call : ℕ → List Record → Bool
has_call session records =
    list_any (λ made. is_call made.entry.act && made.session == session) records

-- The drains of a session gave all that was queued for it until some moment, after which it neither
-- connects nor makes a call.
abbrev pub GaveAll : State → ℕ → List Record → Type 0
GaveAll start session history =
    (before rest : List Record) × (history ≡ before ++ rest)
    × (has_connect session rest ≡ false) × (has_call session rest ≡ false)
    × IsItemPrefix (out_of start session before) (all_given start session history)

-- a ticket was drawn that has no turn; the number is one more than the greatest ticket
abbrev pub is_lock_full : ℕ → Bool
is_lock_full drawn = nat_lt (2 ^ 62) drawn

-- Why the service of a link ended, in the history that was made and among the tickets that were
-- drawn: it failed; or it did not, and it has ended, its stream is at fault, its session was
-- overrun or dropped, the server was stopped, all numbers of sessions were drawn or a ticket that
-- has no turn, or memory ran out. A session that was dropped was given all that was queued for it,
-- unless it was also overrun, the server stopped, or no turn was left.
abbrev pub IsCause : State → LinkView → List Record → ℕ → ℕ → SessionEnd → Type 0
IsCause start link history drawn session end.End = (link.faults ≡ 0) × (link.ended ≡ true)
IsCause start link history drawn session (end.Broken place) = link.faults ≡ 0
IsCause start link history drawn session end.Overrun =
    (link.faults ≡ 0) × WasOverrun start session history
IsCause start link history drawn session end.Dropped =
    (link.faults ≡ 0) × WasDropped start session history
    × (GaveAll start session history ⊎ (WasStopped start history
    ⊎ (WasOverrun start session history ⊎ IsTrue (is_lock_full drawn))))
IsCause start link history drawn session end.Stopped =
    (link.faults ≡ 0) × WasStopped start history
IsCause start link history drawn session end.LinkFault = link.faults ≢ 0
IsCause start link history drawn session (end.Full number) =
    (link.faults ≡ 0) × WasFull number drawn history
IsCause start link history drawn session end.Memory = link.faults ≡ 0

-- the end of a link whose stream is at fault at this place: it is told, or an act was refused
-- before, or memory ran out
abbrev pub TellsOf : ℕ → SessionEnd → Type 0
TellsOf place end.End = ⊥
TellsOf place (end.Broken told) = told ≡ place
TellsOf place end.Overrun = Unit {0}
TellsOf place end.Dropped = Unit {0}
TellsOf place end.Stopped = Unit {0}
TellsOf place end.LinkFault = ⊥
TellsOf place (end.Full number) = Unit {0}
TellsOf place end.Memory = Unit {0}

-- A link that was given back, served so, is in talk with the records of its pass in the history, by
-- the items that the drains of its session give along it. This speaks of whatever bytes there were:
-- those that the link tells, where it tells them.
pub record Talks (start : State) (history mine : List Record) (drawn : ℕ) (link : LinkView)
    (served : Served) : Type 0 where
  pub input : List ℕ
  pub output : List ℕ
  pub tells : HasCarried link input output
  pub talk : IsTalk link.host input output link.ended mine served.session
      (given_of start served.session history) served.end (is_lock_full drawn)
  pub connected : served.session ≢ 0 → IsTrue (has_connect served.session mine)
  pub cause : IsCause start link history drawn served.session served.end
  pub told : (place : ℕ) → fault_of input ≡ Some place → link.faults ≡ 0 → TellsOf place served.end

-- the sessions of links that were given back; number 0 is no session
abbrev pub sessions_of : {L : Type 0} → List (L × Served) → List ℕ
sessions_of links = filter (λ session. not (session == 0)) (map (λ back. back.1.session) links)

-- a record of one of these sessions, or a flush
abbrev pub IsOfOne : List ℕ → Record → Type 0
IsOfOne sessions made =
    (made.entry.act ≡ act.Flush) ⊎ IsTrue (list_any (λ session. session == made.session) sessions)

-- every link that a gate gave was given back
abbrev pub AllGivenBack : {L : Type 0} → GateView L → Type 0
AllGivenBack gate =
    IfSome gate.given (λ number. IfSome gate.returned (λ links. number ≡ length links))

-- The pass of this number served this gate by readings of this clock: each link that was given back
-- is in talk; the pass has no records beyond those of their sessions and flushes; and each record
-- has a reading of its own.
pub record IsWorker {L : Type 0} (view : L → LinkView) (start : State) (history : List Record)
    (drawn number : ℕ) (gate : GateView L) (gave : Option (List ℕ)) : Type 0 where
  pub given_back : AllGivenBack gate
  pub talks : IfSome gate.returned (λ links. AllByRecursion (λ back.
      Talks start history (of_pass number history) drawn (view back.0) back.1) links)
  pub owned : IfSome gate.returned (λ links.
      AllByRecursion (IsOfOne (sessions_of links)) (of_pass number history))
  pub timed : IfSome gave (λ readings.
      IsChosen (map (λ made. made.entry.moment) (of_pass number history)) readings)

-- the gates and the clocks, one of each for each pass from this number on
abbrev pub AreWorkers : {L : Type 0} → (L → LinkView) → State → List Record → ℕ → ℕ →
    List (GateView L) → List (Option (List ℕ)) → Type 0
AreWorkers view start history drawn number [] [] = Unit {0}
AreWorkers view start history drawn number (gate ∷ gates) (gave ∷ clocks) =
    IsWorker view start history drawn number gate gave
    × AreWorkers view start history drawn (number + 1) gates clocks
AreWorkers view start history drawn number [] (gave ∷ clocks) = ⊥
AreWorkers view start history drawn number (gate ∷ gates) [] = ⊥

-- the sessions that a gate tells
abbrev pub told_sessions : {L : Type 0} → GateView L → List ℕ
told_sessions gate = elim gate.returned [ None ↦ [] | Some links ↦ sessions_of links ]

-- What was seen is a legal history of the one-thread server from this sound state on, in which each
-- session's acts are made by the pass that connected it; what the drains of a session gave is the
-- beginning of all that was queued for it, in order; each record is of one of the passes that have
-- a clock; each of these has served its gate by it; and different links have different sessions.
pub record IsRun {L : Type 0} (view : L → LinkView) (start : State) (history : List Record)
    (drawn : ℕ) (gates : List (GateView L)) (clocks : List (Option (List ℕ))) : Type 0 where
  pub sound : IsSound start
  pub legal : IsLegal start history
  pub by_owners : AreByOwners start history
  pub in_order : (session : ℕ) →
      IsItemPrefix (all_given start session history) (out_of start session history)
  pub numbered : AllByRecursion (λ made. made.entry.pass < length clocks) history
  pub workers : AreWorkers view start history drawn 0 gates clocks
  pub distinct : IsDistinct nat_eq (flat_map told_sessions gates)

-- What serving leaves: the entries of the history; how many tickets were drawn; the gates; and what
-- each clock gave.
pub record Service (E L : Type 0) : Type 0 where
  pub seen : List E
  pub drawn : ℕ
  pub gates : List (GateView L)
  pub readings : List (Option (List ℕ))

abbrev pub IsRunOf : {E L : Type 0} → (E → Record) → (L → LinkView) → State → Service E L → Type 0
IsRunOf made view start service =
    IsRun view start (map made service.seen) service.drawn service.gates service.readings

-- The moment is the first reading of the first of these clocks, where that tells its readings.
abbrev pub IsFirstReading : ℕ → List (Option (List ℕ)) → Type 0
IsFirstReading moment [] = ⊥
IsFirstReading moment (None ∷ clocks) = Unit {0}
IsFirstReading moment (Some [] ∷ clocks) = ⊥
IsFirstReading moment (Some (reading ∷ readings) ∷ clocks) = moment ≡ reading

-- a gate failed or has ended, or the server was stopped in this history
abbrev pub IsDone : {L : Type 0} → State → List Record → GateView L → Type 0
IsDone start history gate =
    (gate.faults ≢ 0) ⊎ ((gate.ended ≡ true) ⊎ WasStopped start history)

-- each of these gates has ended, or the server was stopped in this history
abbrev pub IsOver : {L : Type 0} → State → List Record → List (GateView L) → Type 0
IsOver start history gates =
    AllByRecursion (λ gate. gate.ended ≡ true) gates ⊎ WasStopped start history

-- one of these gates failed
abbrev pub HasFailed : {L : Type 0} → List (GateView L) → Type 0
HasFailed [] = ⊥
HasFailed (gate ∷ gates) = (gate.faults ≢ 0) ⊎ HasFailed gates

-- What serving the one gate asks its world for. A gate that it was given is left to be closed
-- (`true`), or the gate or memory for it was refused.
abbrev pub AsksGate : Bool → WorldCounts → WorldCounts → Type 0
AsksGate true old new = new ≡ with_gate true old
AsksGate false old new = (new ≡ old) ⊎ (new ≡ with_gate false old)

-- so many times for a clock
abbrev pub with_clocks : ℕ → WorldCounts → WorldCounts
with_clocks zero counts = counts
with_clocks (suc number) counts = with_clock (with_clocks number counts)

-- What serving a port by so many workers asks its world for: so many clocks, and then as many
-- gates. What it was given is left to be closed (`true`), or a clock, the gates or memory for them
-- was refused.
abbrev pub AsksPort : ℕ → Bool → WorldCounts → WorldCounts → Type 0
AsksPort workers true old new = new ≡ with_port true (with_clocks workers old)
AsksPort workers false old new =
    ((asked : ℕ) × (asked ≤ workers) × (new ≡ with_clocks asked old))
    ⊎ (new ≡ with_port false (with_clocks workers old))
