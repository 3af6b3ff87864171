-- What the desk of a pass in a hall is.
use Rattle.std.specs.Prelude.{◌≡◌, ℕ, ◌^◌, ◌<◌, ◌≤◌, ◌⊎◌, Bool, true, List, ◌++◌}
use Rattle.std.specs.Prelude.{Option, Some, None, Ok, Err}
use Rattle.std.specs.List.{AllByRecursion}
use Rattle.kom_types.specs.declared.limits.TheConstants.{MOST_SESSIONS}
use Rattle.atomic_table.specs.Seated.{TableId}
use Rattle.kom_types.specs.declared.acts.Act.TheVariants as act
use Rattle.kom_types.specs.declared.acts.Record.{Record}
use Rattle.kom_types.specs.declared.answers.Why.TheVariants as why
use Rattle.kom_types.specs.Sessions.{Session}
use Rattle.kom_types.specs.declared.answers.NotMade.{NotMade}
use Rattle.kom_types.specs.declared.answers.NotMade.TheVariants as fault
use Rattle.kom_links.specs.DeskCalls.{DeskView}
use Rattle.kom_links.specs.declared.deeds.Deed.{Deed}
use Rattle.kom_links.specs.declared.deeds.Deed.TheVariants as deed
use Rattle.kom_links.specs.Answers.{Answer}
use Rattle.kom_links.specs.Records.{IsOpen}
use Rattle.kom_model.specs.State.{State, session_of}
use Rattle.kom_model.specs.Refusal.{refusal_of}
use Rattle.kom_model.specs.Legal.{state_after}
use Rattle.kom_model.specs.Out.{given_by_pass}
use Rattle.kom_state_lock.specs.Passes.{HallModel, PassModel, IsPassOf, HoldsNoTurn}
use Rattle.hall_desk.specs.Acts.{IsOpening}
use Rattle.hall_desk.specs.Passes.{PassView, pass_view, of_pass, Knows, connects_in}

-- At some moment of a history that begins in this state the row of a session passed this test.
abbrev pub WasOnce : State → (Session → Bool) → ℕ → List Record → Type 0
WasOnce start test session history =
    (before rest : List Record) × (row : Session) × (history ≡ before ++ rest)
    × (session_of session (state_after start before) ≡ Some row) × (test row ≡ true)

-- more would have waited for the session than may
abbrev pub WasOverrun : State → ℕ → List Record → Type 0
WasOverrun start session history = WasOnce start (λ row. row.overrun) session history

-- a call ended the session
abbrev pub WasDropped : State → ℕ → List Record → Type 0
WasDropped start session history = WasOnce start (λ row. row.seat.ended) session history

-- the server was shut down, or its store refused a flush
abbrev pub WasStopped : State → List Record → Type 0
WasStopped start history = (before rest : List Record) × (history ≡ before ++ rest)
    × (((state_after start before).stopped ≡ true)
    ⊎ ((state_after start before).store_refused ≡ true))

-- all numbers of sessions were drawn, or a ticket that has no turn
abbrev pub WasFull : ℕ → ℕ → List Record → Type 0
WasFull number drawn history =
    ((number ≡ MOST_SESSIONS) × (connects_in history ≡ MOST_SESSIONS))
    ⊎ ((2 ^ 62 ≤ number) × (number < drawn))

-- The cause of a fault at a session, in the history that led to it and among the tickets that were
-- drawn. Memory may always run out.
abbrev pub IsKnown : State → List Record → ℕ → ℕ → Option NotMade → Type 0
IsKnown start history drawn session None = Unit {0}
IsKnown start history drawn session (Some fault.Memory) = Unit {0}
IsKnown start history drawn session (Some (fault.Full number)) = WasFull number drawn history
IsKnown start history drawn session (Some (fault.Gone why.Absent)) = ⊥
IsKnown start history drawn session (Some (fault.Gone why.Dropped)) =
    WasDropped start session history
IsKnown start history drawn session (Some (fault.Gone why.Overrun)) =
    WasOverrun start session history
IsKnown start history drawn session (Some (fault.Gone why.Stopped)) = WasStopped start history

-- After this history a drain of a session that the pass has open is refused: the session was
-- overrun, or a call ended it and nothing waits for it.
abbrev pub IsUndrained : State → ℕ → ℕ → List Record → Type 0
IsUndrained start pass session history =
    IsOpen session (of_pass pass history)
    × (WasOverrun start session history
    ⊎ (refusal_of (state_after start history) (act.Drain session) ≡ Some (fault.Gone why.Dropped)))

-- at some moment of what the pass has seen a drain of a session was refused so
abbrev pub WasUndrained : State → PassView → ℕ → Type 0
WasUndrained start pass session =
    (before rest : List Record) × (pass.seen ≡ before ++ rest)
    × IsUndrained start pass.number session before

-- The row of the session of a deed passed this test at some moment. Other deeds have no session.
abbrev pub WasOnceAt : State → (Session → Bool) → List Record → Deed → Type 0
WasOnceAt start test history deed.Connect = ⊥
WasOnceAt start test history (deed.Call session) = WasOnce start test session history
WasOnceAt start test history (deed.Broken session) = WasOnce start test session history
WasOnceAt start test history (deed.Drain session nothing) = WasOnce start test session history
WasOnceAt start test history deed.Flush = ⊥
WasOnceAt start test history (deed.Close session) = WasOnce start test session history
WasOnceAt start test history deed.Ask = ⊥

-- if a deed is a drain, its session was undrained
abbrev pub IfDrain : State → PassView → Deed → Type 0
IfDrain start pass deed.Connect = Unit {0}
IfDrain start pass (deed.Call session) = Unit {0}
IfDrain start pass (deed.Broken session) = Unit {0}
IfDrain start pass (deed.Drain session nothing) = WasUndrained start pass session
IfDrain start pass deed.Flush = Unit {0}
IfDrain start pass (deed.Close session) = Unit {0}
IfDrain start pass deed.Ask = Unit {0}

-- The cause of an answer, in what the pass has seen and among the tickets that it knows. Memory
-- runs out at a Connect alone, and so do the numbers of sessions.
abbrev pub IsKnownAnswer : State → PassView → Answer → Type 0
IsKnownAnswer start pass (what, Ok done) = Unit {0}
IsKnownAnswer start pass (what, Err fault.Memory) = what ≡ deed.Connect
IsKnownAnswer start pass (what, Err (fault.Full number)) =
    WasFull number pass.drawn pass.seen × ((what ≡ deed.Connect) ⊎ (2 ^ 62 ≤ number))
IsKnownAnswer start pass (what, Err (fault.Gone why.Absent)) = ⊥
IsKnownAnswer start pass (what, Err (fault.Gone why.Dropped)) =
    WasOnceAt start (λ row. row.seat.ended) pass.seen what × IfDrain start pass what
IsKnownAnswer start pass (what, Err (fault.Gone why.Overrun)) =
    WasOnceAt start (λ row. row.overrun) pass.seen what × IfDrain start pass what
IsKnownAnswer start pass (what, Err (fault.Gone why.Stopped)) = WasStopped start pass.seen

-- Why a flush, or a drain of a session, was refused: no turn of the lock was left; the server was
-- stopped; or the session was undrained.
abbrev pub WasRefusedTo : State → PassView → ℕ → Type 0
WasRefusedTo start pass session =
    (2 ^ 62 < pass.drawn) ⊎ (WasStopped start pass.seen ⊎ WasUndrained start pass session)

-- what the desk has: the table of its hall and the state in which the hall's history begins, its
-- pass, and what it answered, for clauses alone
pub record Kept : Type 0 where
  pub table : TableId
  pub start : State
  pub pass : PassView
  pub answers : List Answer

-- What contracts see of a desk that has these. What a session was given is what the drains of this
-- pass gave it.
abbrev pub desk_view : Kept → DeskView
desk_view kept = record {
  pass = kept.pass.number;
  mine = kept.pass.mine;
  gave_to = λ session. given_by_pass kept.start kept.pass.number session kept.pass.seen;
  answers = kept.answers;
  lock_full = kept.pass.waits;
}

-- The history begins with a server before its first entry, what the pass knows is true, and each
-- answer has its cause.
pub record AreTrue (start : State) (pass : PassView) (answers : List Answer) : Type 0 where
  pub opening : IsOpening start
  pub knows : Knows start pass
  pub known : AllByRecursion (IsKnownAnswer start pass) answers

-- what holds of a desk
abbrev pub Stands : Kept → Type 0
Stands kept = AreTrue kept.start kept.pass kept.answers

module _ {B E : Type 0} (made : E → Record) (server : B → State) where
  -- a desk in a hall
  abbrev pub kept_in : HallModel B → PassModel B E → List Answer → Kept
  kept_in hall pass answers = record {
    table = hall.table;
    start = server hall.opening;
    pass = pass_view made pass;
    answers = answers;
  }

  -- The same between two calls: its pass is one of the hall, and holds no turn.
  pub record Rests (hall : HallModel B) (pass : PassModel B E) (answers : List Answer)
      : Type 0 where
    pub of_hall : IsPassOf hall pass
    pub free : HoldsNoTurn pass.turn
    pub stands : AreTrue (server hall.opening) (pass_view made pass) answers

-- A later state of the same desk: of the same pass of the same hall, which has seen all that it had
-- seen then, in the same order and before anything else, and knows of no fewer tickets.
pub record GoesOn (old new : Kept) : Type 0 where
  pub table : new.table ≡ old.table
  pub start : new.start ≡ old.start
  pub number : new.pass.number ≡ old.pass.number
  pub seen : (more : List Record) × (new.pass.seen ≡ old.pass.seen ++ more)
  pub drawn : old.pass.drawn ≤ new.pass.drawn
