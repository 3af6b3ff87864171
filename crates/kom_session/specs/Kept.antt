-- The invariant of a machine that serves a link, and the relation of one step to the next.
use Rattle.std.specs.Prelude.{◌≡◌, ◌≢◌, ℕ, ◌≤◌, ◌⊎◌, List, [], ◌∷◌, ◌++◌, Option}
use Rattle.std.specs.Prelude.{Some, None, option_map, Result, ⊤, Bool, false, IsTrue, ◌↔◌, ◌+◌}
use Rattle.std.specs.Prelude.{IfSome}
use Rattle.std.specs.List.{AllByRecursion}
use Rattle.kom_types.specs.declared.acts.Act.TheVariants as act
use Rattle.kom_types.specs.declared.acts.Record.{Record}
use Rattle.kom_types.specs.Stream.{stream_of}
use Rattle.kom_types.specs.Reading.{Request, place_of}
use Rattle.kom_framing.specs.declared.units.Unit.{Unit as StreamUnit}
use Rattle.kom_framing.specs.declared.units.Unit.TheVariants as unit
use Rattle.kom_framing.specs.Splitting.{IsAt}
use Rattle.kom_types.specs.declared.answers.NotMade.{NotMade}
use Rattle.kom_links.specs.declared.served.SessionEnd.{SessionEnd}
use Rattle.kom_links.specs.declared.served.SessionEnd.TheVariants as end
use Rattle.kom_links.specs.Answers.{Answer, asks_in}
use Rattle.kom_session.specs.Left.{waits_in}
use Rattle.kom_links.specs.DeskCalls.{DeskView, Flushes, AsksStopped, StaysForAll}
use Rattle.kom_links.specs.Doors.{Gains}
use Rattle.kom_links.specs.Outside.{Look, LinkView, Reads, Writes, Rose}
use Rattle.kom_links.specs.declared.served.Served.{Served}
use Rattle.kom_links.specs.declared.link.Got.{Got}
use Rattle.kom_links.specs.declared.link.Took.{Took}
use Rattle.kom_links.specs.Talk.{AreTimed}
use Rattle.kom_session.specs.declared.machine.Machine.{Machine}
use Rattle.kom_session.specs.declared.phase.Phase.{Phase}
use Rattle.kom_session.specs.declared.phase.Phase.TheVariants as phase
use Rattle.kom_session.specs.declared.phase.Stage.{Stage}
use Rattle.kom_session.specs.declared.phase.Stage.TheVariants as stage
use Rattle.kom_session.specs.Known.{Known, Seen, State, state, sight, known_by, to_print, HasRoom}
use Rattle.kom_session.specs.Known.{Keeps}
use Rattle.kom_session.specs.Serving.{Somebody, Past, IsFaultAfter, AreCalled, Plans, IsHeard}
use Rattle.kom_session.specs.Serving.{IsFinal, IsServed, ServesLink}

-- a phase in which the stream is read and called: at most four lines are to be settled
abbrev pub IsEarly : Phase → Type 0
IsEarly phase.Calm = Unit {0}
IsEarly (phase.Due lines) = lines ≤ 4
IsEarly phase.Owing = ⊥
IsEarly phase.Draining = Unit {0}
IsEarly phase.Denied = ⊥

-- a phase in which nothing more waits to be sent
abbrev pub IsAtRest : Phase → Type 0
IsAtRest phase.Calm = Unit {0}
IsAtRest (phase.Due lines) = ⊥
IsAtRest phase.Owing = ⊥
IsAtRest phase.Draining = ⊥
IsAtRest phase.Denied = Unit {0}

-- The stream is served: the units that were taken are those that were called, no fault was
-- answered, and it is known whether what was fed is at fault.
pub record IsAtStream (past : Past) (known : Known) : Type 0 where
  pub units : List StreamUnit
  pub at : IsAt known.splitting past.fed units
  pub called : AreCalled past.party units
  pub sound : known.cause ≡ None
  pub bad : option_map place_of (stream_of past.fed).fault ≡ known.bad
  pub early : IsEarly known.phase

-- What waits is sent, and then the service so ends.
pub record IsLast (past : Past) (known : Known) (ending : SessionEnd) : Type 0 where
  pub final : IsFinal ending known.cause
  pub plan : (later : Known) → Keeps known later → later.pending ≡ []
      → (later.cause ≡ None → later.phase ≡ phase.Calm) → Plans ending later.cause past later
  pub denied : known.phase ≡ phase.Denied → known.cause ≢ None

-- an end by the link or by memory; or what waits for the session was sent, or refused
abbrev pub IsSent : SessionEnd → Phase → Type 0
IsSent end.End reached = IsAtRest reached
IsSent (end.Broken place) reached = IsAtRest reached
IsSent end.Overrun reached = Unit {0}
IsSent end.Dropped reached = Unit {0}
IsSent end.Stopped reached = Unit {0}
IsSent end.LinkFault reached = Unit {0}
IsSent (end.Full number) reached = Unit {0}
IsSent end.Memory reached = Unit {0}

-- The service is over, and so ends.
pub record IsOver (start : Seen) (past : Past) (known : Known) (now : Seen)
    (ending : SessionEnd) : Type 0 where
  pub plan : Plans ending known.cause past known
  pub heard : IsHeard ending known.cause start.link now.link
  pub sent : IsSent ending known.phase

-- what holds at a stage of the stream
abbrev pub IsStage : Stage → Seen → Past → Known → Seen → Type 0
IsStage stage.Serving start past known now = IsAtStream past known
IsStage (stage.Last ending) start past known now = IsLast past known ending
IsStage (stage.Over ending) start past known now = IsOver start past known now ending

-- The invariant: a link was served so far since this start.
pub record IsKept (start : Seen) (known : Known) (now : Seen) : Type 0 where
  pub past : Past
  pub served : IsServed start past known now
  pub stage : IsStage known.stage start past known now

-- The relation of what was to what is: what was kept is kept; records were added, each with a
-- reading of the clock of its own, and answers; and a session stays the same one.
pub record Goes (old new : State) : Type 0 where
  pub kept : (start : Seen) → IsKept start old.known old.seen → IsKept start new.known new.seen
  pub added : List Record
  pub answers : List Answer
  pub mine : new.seen.desk.mine ≡ old.seen.desk.mine ++ added
  pub timed : AreTimed old.seen.gave new.seen.gave added
  pub tells : new.seen.desk.answers ≡ old.seen.desk.answers ++ answers
  pub session : old.known.session ≢ 0 → new.known.session ≡ old.known.session

-- The same of what held of a start, in place of that it was kept since.
pub record Leads (Held : Seen → Type 0) (old new : State) : Type 0 where
  pub kept : (start : Seen) → Held start → IsKept start new.known new.seen
  pub added : List Record
  pub answers : List Answer
  pub mine : new.seen.desk.mine ≡ old.seen.desk.mine ++ added
  pub timed : AreTimed old.seen.gave new.seen.gave added
  pub tells : new.seen.desk.answers ≡ old.seen.desk.answers ++ answers
  pub session : old.known.session ≢ 0 → new.known.session ≡ old.known.session

-- it leads so over whatever link
abbrev pub IfHeld : (Seen → State → Type 0) → (LinkView → State) → (LinkView → State) → Type 0
IfHeld Held old new =
    (link : LinkView) → Leads (λ start. Held start (old link)) (old link) (new link)

-- A unit was taken from the splitter, and is yet to be called.
pub record IsTaking (next : StreamUnit) (start : Seen) (here : State) : Type 0 where
  pub past : Past
  pub units : List StreamUnit
  pub served : IsServed start past here.known here.seen
  pub at : IsAt here.known.splitting past.fed (units ++ next ∷ [])
  pub called : AreCalled past.party units
  pub sound : here.known.cause ≡ None
  pub bad : option_map place_of (stream_of past.fed).fault ≡ here.known.bad
  pub serving : here.known.stage ≡ stage.Serving
  pub room : HasRoom here.known.phase

-- the greeting of this user was, from a link at this host
abbrev pub IsGreeted : List ℕ → List ℕ → Seen → State → Type 0
IsGreeted host user start here =
    (here.seen.link.host ≡ host) × IsTaking (unit.Hello user) start here

-- A session's stream is at fault at this place, which is to be told.
pub record IsFaulty (place : ℕ) (start : Seen) (here : State) : Type 0 where
  pub fed : List ℕ
  pub user : List ℕ
  pub requests : List Request
  pub served : IsServed start (record { fed = fed; party = Somebody user requests false })
      here.known here.seen
  pub fault : IsFaultAfter fed place requests

-- it is served since some start, over this desk and clock and a link at this host
abbrev pub CanGo : Known → DeskView → Option (List ℕ) → Type 0
CanGo known desk gave =
    (start : Seen) × (link : LinkView) × IsKept start known (sight desk link gave)

-- The link may be read: all that came was called, settled and written.
pub record MayRead (known : Known) : Type 0 where
  pub serving : known.stage ≡ stage.Serving
  pub calm : known.phase ≡ phase.Calm
  pub none_left : known.splitting.held ≡ []
  pub not_bad : known.bad ≡ None
  pub all_put : known.pending ≡ []

-- A unit may be called, or the stream's fault told.
pub record MayAct (known : Known) : Type 0 where
  pub serving : known.stage ≡ stage.Serving
  pub room : HasRoom known.phase
  pub some : known.splitting.held ≡ [] → known.bad ≢ None

-- It may be told that a flush was made or refused: there is a session, and it is not over.
abbrev pub MayFlush : Known → Type 0
MayFlush known = (known.session ≢ 0) ⊎ (known.phase ≢ phase.Calm)

-- It may be told whether the desk is stopped: without a session only while the stream is served.
abbrev pub MayAsk : Known → Type 0
MayAsk known = known.session ≡ 0 → known.stage ≡ stage.Serving

-- a session may be drained: it was flushed, and all items that it was given were printed
pub record MayDrain (machine : Machine) : Type 0 where
  pub flushed : machine.phase ≡ phase.Draining
  pub all_printed : to_print machine ≡ []

-- the service is over
abbrev pub IsDone : Stage → Type 0
IsDone stage.Serving = ⊥
IsDone (stage.Last ending) = ⊥
IsDone (stage.Over ending) = Unit {0}

-- it is not over
abbrev pub IsOn : Stage → Type 0
IsOn stage.Serving = Unit {0}
IsOn (stage.Last ending) = Unit {0}
IsOn (stage.Over ending) = ⊥

-- Whatever was seen before, only the link was read, which gave this answer, of this buffer.
abbrev pub IfRead : Known → List ℕ → Got → Known → Type 0
IfRead old buffer answer new = (now : Seen) (link : LinkView) → Reads now.link buffer answer link
    → Goes (state old now) (state new (record now { link = link }))

-- the same of a write of these bytes
abbrev pub IfWritten : Known → List ℕ → Took → Known → Type 0
IfWritten old from answer new = (now : Seen) (link : LinkView) → Writes now.link from answer link
    → Goes (state old now) (state new (record now { link = link }))

-- Whatever was seen before, the desk was asked for a flush alone, at a reading of the clock.
abbrev pub IfFlushed : Known → Result ⊤ NotMade → Known → Type 0
IfFlushed old answer new = (now : Seen) (moment : ℕ) (desk : DeskView) (gave : Option (List ℕ))
    → Flushes now.desk moment answer desk → Gains now.gave moment gave
    → Goes (state old now) (state new (sight desk now.link gave))

-- the desk was asked whether it is stopped alone
abbrev pub IfAsked : Known → Result Bool NotMade → Known → Type 0
IfAsked old answer new = (now : Seen) (desk : DeskView) → AsksStopped now.desk answer desk
    → Goes (state old now) (state new (sight desk now.link now.gave))

-- nothing was done outside
abbrev pub IfStill : Known → Known → Type 0
IfStill old new = (now : Seen) → Goes (state old now) (state new now)

-- a flush, which is of no session
abbrev pub IsFlush : Record → Type 0
IsFlush made = (made.entry.act ≡ act.Flush) × (made.session ≡ 0)

-- Only flushes of others were added to a desk's records.
pub record PassesBy (old new : DeskView) : Type 0 where
  pub flushes : List Record
  pub mine : new.mine ≡ old.mine ++ flushes
  pub all : AllByRecursion IsFlush flushes
  pub given : StaysForAll old.gave_to new.gave_to
  pub answers : new.answers ≡ old.answers
  pub pass : new.pass ≡ old.pass

-- Acts were made at a desk by readings of a clock, whatever the link at this host is.
abbrev pub IfMade : List ℕ → Known → DeskView → Option (List ℕ) → Known → DeskView
    → Option (List ℕ) → Type 0
IfMade host old desk gave new desk' gave' = (link : LinkView) → link.host ≡ host
    → Goes (state old (sight desk link gave)) (state new (sight desk' link gave'))

-- The service was closed: since each start from which it was kept, over whatever link, it is served
-- as the contract of serve_link says; `risen` tells whether that link failed since.
abbrev pub IfClosed : Bool → Known → DeskView → Option (List ℕ) → Served → DeskView
    → Option (List ℕ) → Type 0
IfClosed risen old desk gave result desk' gave' = (start : Seen) (link : LinkView)
    → (IsTrue risen ↔ Rose start.link.faults link.faults)
    → ((added : List Record) × (desk.mine ≡ start.desk.mine ++ added)
    × AreTimed start.gave gave added)
    → IsKept start old (sight desk link gave) → ServesLink start result (sight desk' link gave')

-- A session was closed, if there is one: no record was added to a desk, or the session's Close,
-- which has a reading of the clock.
pub record AddsClose (session : ℕ) (old : DeskView) (gave : Option (List ℕ)) (new : DeskView)
    (gave' : Option (List ℕ)) : Type 0 where
  pub added : List Record
  pub mine : new.mine ≡ old.mine ++ added
  pub timed : AreTimed gave gave' added
  pub none : session ≡ 0 → added ≡ []

-- Where a link tells its reads after some steps, it told them before; and for each read more that
-- found nothing the desk was asked once more whether it is stopped.
abbrev pub IsAskedFor : Option (List Look) → List Answer → Option (List Look) → List Answer → Type 0
IsAskedFor reads answers reads' answers' = IfSome reads' (λ after. (before : List Look)
    × (reads ≡ Some before)
    × (waits_in after + asks_in answers ≤ waits_in before + asks_in answers'))
