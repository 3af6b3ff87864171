-- What each command comes to.
use Rattle.std.specs.Prelude.{◌≡◌, ◌≢◌, ◌⊎◌, ◌<◌, ◌≤◌, ◌++◌, ℕ, true, IsTrue, List, [], length}
use Rattle.std.specs.Prelude.{get_or, codes, Option, Some, None, IfSome, IsSome, IsSomeAnd}
use Rattle.std.specs.List.{AllByRecursion}
use Rattle.kom_types.specs.declared.acts.Record.{Record}
use Rattle.kom_disk.specs.declared.disk.Disk.{Ghosts}
use Rattle.kom_links.specs.Doors.{GateView, SinkView, WorldView, GivesFirst}
use Rattle.kom_links.specs.Outside.{LinkView, IsNothing}
use Rattle.kom_model.specs.Db.{Db}
use Rattle.kom_model.specs.Initial.{initial}
use Rattle.kom_model.specs.Legal.{IsLegal}
use Rattle.kom_model.specs.State.{State, opening_state}
use Rattle.noninterference.specs.Hiding.{IsHiding}
use Rattle.kom_journal.specs.Images.{StandsFor, AreFor, images}
use Rattle.kom_book.specs.declared.ticked.Ticked.{Ticked}
use Rattle.kom_book.specs.Stops.{record_of, records_of}
use Rattle.kom_commands.specs.declared.cases.Cases.{Cases}
use Rattle.kom_commands.specs.declared.numbers.AtPort.{AtPort}
use Rattle.kom_commands.specs.declared.words.Command.{Command}
use Rattle.kom_commands.specs.declared.words.Command.TheVariants as command
use Rattle.kom_commands.specs.Reports.{HasText, made_line}
use Rattle.kom_sweep.specs.declared.ends.SweepEnd.{SweepEnd}
use Rattle.kom_load.specs.Loading.{new_server as loaded_server, run_of, summary_of}
use Rattle.kom_load.specs.Summaries.{lines_of}
use Rattle.store_check.specs.Stores.{IfFound, IsReported}
use Rattle.kom_serving.specs.Runs.{Service, IsRunOf, IsOver, IsFirstReading}
use Rattle.kom_server.specs.Statuses.{HasRefused, IsWell}
use Rattle.kom_server.specs.Stops.{HasServed, seen_of}
use Rattle.kom_server.specs.Sweeps.{IsSweepRun, IsMetBy}

-- the usage line
abbrev pub usage : List ℕ
usage =
    codes "usage: komd once [STORE] | serve STORE PORT WORKERS "
    ++ codes "| hub STORE PORT WORKERS | init STORE PASSWORD | check STORE | load N "
    ++ codes "| sweep STORE PERSON PASSWORD\n"

-- a new server with the empty password, at this moment
abbrev pub new_server : ℕ → State
new_server moment = opening_state (initial [] moment)

-- one to 64 workers
abbrev pub IsWithin : Option AtPort → Type 0
IsWithin port = IfSome port (λ at. (0 < at.workers) × (at.workers ≤ 64))

-- How many gates are served, and when that is over: over standard input and output the gate has
-- ended, at a port each gate has, or the server was stopped.
abbrev pub gates_at : Option AtPort → ℕ
gates_at None = 1
gates_at (Some at) = at.workers

abbrev pub IsOverAt : {L : Type 0} → Option AtPort → State → List Record → List (GateView L)
    → Type 0
IsOverAt None start history gates = AllByRecursion (λ gate. gate.ended ≡ true) gates
IsOverAt (Some at) start history gates = IsOver start history gates

-- A run from this state, over standard input and output or at a port, at as many gates; it is over
-- where all went well, which is this fact. What the rights hide from a group of persons changes
-- nothing that its sessions are sent.
pub record IsHidingRun {D L : Type 0} (view : L → LinkView) (port : Option AtPort) (start : State)
    (well : Type 0) (service : Service (Ticked D) L) : Type 0 where
  pub run : IsRunOf record_of view start service
  pub hides : IsHiding start (records_of service.seen)
  pub number : length service.gates ≡ gates_at port
  pub over : well → IsOverAt port start (records_of service.seen) service.gates

-- A new server was served, opened at the first reading of its clock. No flush was refused.
pub record ServesNew {D L : Type 0} (view : L → LinkView) (well : Type 0)
    (service : Service (Ticked D) L) : Type 0 where
  pub opened : ℕ
  pub first : IsFirstReading opened service.readings
  pub run : IsHidingRun view None (new_server opened) well service
  pub unrefused : HasRefused (records_of service.seen) → ⊥

-- One session of a server deleted what is due by the replies that it was given, or the first of
-- that, and ended so, of which this is told. No gate was asked for.
pub record EndsSweep {D L : Type 0} (person : ℕ) (password : List ℕ) (first : Option ℕ)
    (told : SweepEnd → Type 0) (start : State) (service : Service (Ticked D) L) : Type 0 where
  pub ending : SweepEnd
  pub run : IsSweepRun start person password first (records_of service.seen) service.drawn
      service.readings ending
  pub tells : told ending
  pub no_gate : service.gates ≡ []

-- The records of so many calls are a legal history of a new server, and its report, which says what
-- each of them came to, was put to the sink.
pub record IsLoaded (count : ℕ) (sink : SinkView) : Type 0 where
  pub legal : IsLegal loaded_server (run_of count).history
  pub put : HasText (lines_of (summary_of (run_of count))) sink

-- a store was opened: something was begun over it, or the world was asked for a clock
abbrev pub WasOpened : {D X : Type 0} → WorldView → WorldView → Option D → Option X → Type 0
WasOpened old new disk end =
    IsSome end ⊎ (IsSome disk × (new.counts.clocks ≢ old.counts.clocks))

module _ {D : Type 0} (d : Ghosts D) where
  -- A server was opened from the store of a path as that is found, where it is told: what was done
  -- over it, if anything was; and what a stop leaves of the store at any moment since.
  pub record OverStore {L : Type 0} (world : WorldView) (path : List ℕ)
      (does : State → Service (Ticked D) L → Type 0) (disk : Option D)
      (end : Option (Service (Ticked D) L)) : Type 0 where
    pub db : Db
    pub found : IfFound d.tells world.files path (StandsFor db)
    pub does_so : IfSome end (does (opening_state db))
    pub left : IfSome disk (HasServed d (opening_state db) (seen_of end))

  -- Where all went well the file was empty, the line that tells it was put to the sink, and a stop
  -- now leaves a store of a new server with this password, at the moment that a clock of the world
  -- gave first, where that is told. Where there was something the file was not empty.
  pub record MakesStore {C : Type 0} (gave : C → Option (List ℕ)) (world : WorldView)
      (path password : List ℕ) (well used : Type 0) (disk : Option D) (sink : SinkView)
      : Type 0 where
    pub empty : well → IsTrue d.tells → IfSome world.files (λ found. found path ≡ [])
    pub full : used → IsTrue d.tells → IfSome world.files (λ found. found path ≢ [])
    pub put : well → HasText made_line sink
    pub rows : well → (now : ℕ)
        × ((clock : C) × IsNothing (gave clock) × GivesFirst world.moment (gave clock) now)
        × IsSomeAnd disk (λ disk. IsTrue d.tells
        → AreFor (images d.images disk) (initial password now))

  module _ {L C : Type 0} (view : L → LinkView) (gave : C → Option (List ℕ)) (words : List (List ℕ))
      (old new : WorldView) (cases : Cases) (disk : Option D) (end : Option (Service (Ticked D) L))
      (sink : SinkView) where
    -- what a command comes to that serves a store
    abbrev pub ComesOver : Option AtPort → Type 0
    ComesOver port = WasOpened old new disk end → OverStore old (get_or words 1 [])
        (λ start. IsHidingRun view port start (IsWell cases)) disk end

    -- what a command of these words comes to
    abbrev pub Comes : Command → Type 0
    Comes command.Once = IfSome end (ServesNew view (IsWell cases))
    Comes command.OnceOver = ComesOver None
    Comes (command.Serve at) = ComesOver (Some at)
    Comes command.Init = MakesStore gave old (get_or words 1 []) (get_or words 2 []) (IsWell cases)
        (IsTrue cases.is_unfit) disk sink
    Comes command.Check = IsWell cases → IsReported d.tells old.files (get_or words 1 []) sink
    Comes (command.Load count) = IsWell cases → IsLoaded count sink
    Comes (command.Sweep person) = WasOpened old new disk end → OverStore old (get_or words 1 [])
        (EndsSweep person (get_or words 3 []) old.moment (λ ending. IsMetBy ending cases sink)) disk
        end
