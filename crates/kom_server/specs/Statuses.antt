-- What the exit statuses say, and what a command asks its world for.
use Rattle.std.specs.Prelude.{◌≡◌, ◌⊎◌, ◌↔◌, ℕ, Bool, true, false, IsTrue, List, [], ◌∷◌}
use Rattle.std.specs.Prelude.{Option, Some, None, IsSome, IsNone, IsSomeAnd}
use Rattle.kom_types.specs.declared.acts.Record.{Record}
use Rattle.kom_links.specs.declared.world_counts.WorldCounts.{WorldCounts}
use Rattle.kom_links.specs.WorldCounts.{with_clock, with_disk, with_sink}
use Rattle.kom_commands.specs.declared.cases.Cases.{Cases}
use Rattle.kom_commands.specs.declared.numbers.AtPort.{AtPort}
use Rattle.kom_commands.specs.declared.words.Command.{Command}
use Rattle.kom_commands.specs.declared.words.Command.TheVariants as command
use Rattle.kom_commands.specs.Statuses.{IsStatus}
use Rattle.kom_commands.specs.Words.{IsSpelled, IsRefused, serves, names_store}
use Rattle.kom_commands.specs.Sweeps.{SaysSweep}
use Rattle.kom_journal.specs.Images.{as_read}
use Rattle.kom_book.specs.declared.ticked.Ticked.{Ticked}
use Rattle.kom_book.specs.Stores.{IsFlush}
use Rattle.kom_book.specs.Stops.{records_of}
use Rattle.store_check.specs.Stores.{Fails, IsNoStore, IfFound, IsWrong, IsUnswept}
use Rattle.kom_serving.specs.Runs.{AsksGate, AsksPort, Service, HasFailed}

-- the words are a command of this kind
abbrev pub Says : List (List ℕ) → (Command → Bool) → Type 0
Says words kind = (command : Command) × IsSpelled words command × IsTrue (kind command)

-- the words are a command that sweeps a store
abbrev pub Sweeps : List (List ℕ) → Type 0
Sweeps words = (person : ℕ) × SaysSweep words person

-- the command that serves a store: over standard input and output, or at a port
abbrev pub serve_over : Option AtPort → Command
serve_over None = command.OnceOver
serve_over (Some at) = command.Serve at

-- whether a command opens a store as it is found
abbrev pub opens_store : Command → Bool
opens_store command.Once = false
opens_store command.OnceOver = true
opens_store (command.Serve at) = true
opens_store command.Init = false
opens_store command.Check = true
opens_store (command.Load count) = false
opens_store (command.Sweep person) = true

-- the store refused a flush of this history
abbrev pub HasRefused : List Record → Type 0
HasRefused [] = ⊥
HasRefused (made ∷ history) = (IsFlush made × IsTrue made.short) ⊎ HasRefused history

-- The store failed: its disk did, or was not opened, which is this fact; or it refused a flush of
-- what was served.
abbrev pub StoreFails : {D L : Type 0} → (D → ℕ) → Type 0 → Option D
    → Option (Service (Ticked D) L) → Type 0
StoreFails faults unopened disk end =
    Fails faults unopened disk ⊎ IsSomeAnd end (λ service. HasRefused (records_of service.seen))

-- the world failed, which is this fact, or a gate of what was served did
abbrev pub GateFails : {E L : Type 0} → Type 0 → Option (Service E L) → Type 0
GateFails failed end = failed ⊎ IsSomeAnd end (λ service. HasFailed service.gates)

-- nothing went wrong
abbrev pub IsWell : Cases → Type 0
IsWell cases = IsWrong cases → ⊥

-- The same of the exit status, but that the sink may have failed.
abbrev pub IsWellAt : ℕ → Type 0
IsWellAt status = (status ≡ 0) ⊎ (status ≡ 7)

-- Which command comes to which status, and whether it was begun. Where memory ran out only a sweep
-- was. What serves and comes to 0 was; so was a sweep, unless it comes to 3, 4 or 6.
pub record FitsStatus (words : List (List ℕ)) (begun : Bool) (status : ℕ) : Type 0 where
  pub known : (status ≡ 2) ⊎ IsStatus status
  pub named : status ≡ 4 → Says words names_store
  pub swept : (status ≡ 8) ⊎ (status ≡ 10) → Sweeps words
  pub unserved : status ≡ 6 → (begun ≡ false) ⊎ Sweeps words
  pub serves : Says words serves → status ≡ 0 → begun ≡ true
  pub sweeps : Sweeps words
      → (status ≡ 3) ⊎ ((status ≡ 4) ⊎ ((status ≡ 6) ⊎ (begun ≡ true)))

-- The cases of a command, where the world failed if this is a fact.
pub record FitsCases {D L : Type 0} (faults : D → ℕ) (said : Command) (failed : Type 0)
    (cases : Cases) (disk : Option D) (end : Option (Service (Ticked D) L)) : Type 0 where
  pub store : IsTrue cases.store_failed
      ↔ StoreFails faults (IsTrue (names_store said) × failed) disk end
  pub gate : IsTrue cases.gate_failed ↔ (IsTrue (serves said) × GateFails failed end)
  pub named : IsTrue cases.is_unfit → IsTrue (names_store said) × IsNone end
  pub unserved : IsTrue (serves said) → IsTrue cases.no_memory → IsNone end
  pub serves : IsTrue (serves said) → IsWrong cases ⊎ IsSome end
  pub swept : IsUnswept cases ⊎ (IsSome end × ((person : ℕ) × (said ≡ command.Sweep person)))
  pub sweeps : (person : ℕ) → said ≡ command.Sweep person → IsWrong cases ⊎ IsSome end

-- Whether a command that opens a store as it is found finds one. Where it says by the first fact
-- that it finds none, there is none; where all went well there is one; and where what it finds is
-- told to be none, nothing is begun, and the world was asked for the disk alone.
pub record FindsStore (tells : Bool) (files : Option (List ℕ → List ℕ)) (path : List ℕ)
    (unfit well : Type 0) (has_disk begun : Bool) (old new : WorldCounts) : Type 0 where
  pub none : unfit → IfFound tells files path IsNoStore
  pub one : well → IfFound tells files path (λ image. IsNoStore image → ⊥)
  pub untouched : IsTrue tells → IsSomeAnd files (λ found. IsNoStore (as_read found path))
      → (begun ≡ false) × (new ≡ with_disk has_disk old)

-- What serving asks its world for, beside a sink and a disk: over standard input and output a
-- clock, and then its gate; or what a port asks for. What it was given is left to be closed
-- (`true`), or the clock, the gate or memory for them or for the rows of the server was refused.
abbrev pub AsksPlace : Option AtPort → Bool → WorldCounts → WorldCounts → Type 0
AsksPlace None true old new = AsksGate true (with_clock old) new
AsksPlace None false old new = (new ≡ old) ⊎ AsksGate false (with_clock old) new
AsksPlace (Some at) serves old new = AsksPort at.workers serves old new

-- What a sweep asks its world for, beside a sink and a disk: a clock. It was given that, and is
-- left with it (`true`), or it did not come to that, or memory was refused.
abbrev pub AsksClock : Bool → WorldCounts → WorldCounts → Type 0
AsksClock true old new = new ≡ with_clock old
AsksClock false old new = (new ≡ old) ⊎ (new ≡ with_clock old)

-- What a command asks its world for, beside a sink: a disk, if it names a store; then what serving
-- asks for, or a clock to make a store by. What it was given is left.
abbrev pub Asks : Command → Bool → Bool → WorldCounts → WorldCounts → Type 0
Asks command.Once has_disk serves old new = (has_disk ≡ false) × AsksPlace None serves old new
Asks command.OnceOver has_disk serves old new = AsksPlace None serves (with_disk has_disk old) new
Asks (command.Serve at) has_disk serves old new =
    AsksPlace (Some at) serves (with_disk has_disk old) new
Asks command.Init has_disk serves old new =
    (serves ≡ false) × AsksClock false (with_disk has_disk old) new
Asks command.Check has_disk serves old new = (serves ≡ false) × (new ≡ with_disk has_disk old)
Asks (command.Load count) has_disk serves old new =
    (has_disk ≡ false) × (serves ≡ false) × (new ≡ old)
Asks (command.Sweep person) has_disk sweeps old new =
    AsksClock sweeps (with_disk has_disk old) new

-- what words ask their world for: a sink, and beside that what the command does, if they are one
abbrev pub AskFor : List (List ℕ) → Bool → Bool → WorldCounts → WorldCounts → Type 0
AskFor words has_disk begun old new = (IsRefused words → new ≡ with_sink old)
    × ((command : Command) → IsSpelled words command
    → Asks command has_disk begun (with_sink old) new)
