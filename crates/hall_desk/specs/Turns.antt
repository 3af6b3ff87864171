-- What one turn of a desk leaves.
use Rattle.std.specs.Prelude.{◌≡◌, ℕ, ◌^◌, ◌<◌, ◌≤◌, ◌⊎◌, ◌||◌, Bool, true, false, List, [], ◌∷◌}
use Rattle.std.specs.Prelude.{◌++◌, Option, Some, None, Result, Ok, Err, ⊤, if◌then◌else◌}
use Rattle.kom_types.specs.declared.acts.Act.{Act}
use Rattle.kom_types.specs.declared.acts.Act.TheVariants as act
use Rattle.kom_types.specs.declared.acts.Entry.{Entry}
use Rattle.kom_types.specs.declared.acts.Record.{Record}
use Rattle.kom_types.specs.declared.answers.NotMade.{NotMade}
use Rattle.kom_types.specs.declared.answers.Why.TheVariants as why
use Rattle.kom_types.specs.declared.items.Item.{Item}
use Rattle.kom_types.specs.declared.answers.NotMade.TheVariants as fault
use Rattle.kom_links.specs.Answers.{without_value, deed_of}
use Rattle.kom_links.specs.Records.{IsOpen}
use Rattle.kom_model.specs.State.{State}
use Rattle.kom_model.specs.Refusal.{refusal_of}
use Rattle.kom_model.specs.After.{MayFollow}
use Rattle.kom_model.specs.Making.{IsConnect}
use Rattle.kom_model.specs.Legal.{IsLegal, AreByOwners, state_after}
use Rattle.kom_model.specs.Out.{taken_by}
use Rattle.hall_desk.specs.Passes.{PassView, of_pass}
use Rattle.hall_desk.specs.Desks.{Kept, Stands}

-- the session of an act, if it has one before it, is open in these records
abbrev pub IsOfOpen : List Record → Act → Type 0
IsOfOpen mine (act.Connect user host) = Unit {0}
IsOfOpen mine (act.Call session reference call) = IsOpen session mine
IsOfOpen mine (act.Broken session) = IsOpen session mine
IsOfOpen mine (act.Drain session) = IsOpen session mine
IsOfOpen mine act.Flush = Unit {0}
IsOfOpen mine (act.Close session) = IsOpen session mine

-- A pass had its turn after this history, which goes on from what it had seen and has nothing more
-- of the pass.
pub record Sees (start : State) (old new : PassView) (history : List Record) : Type 0 where
  pub goes_on : (more : List Record) × (history ≡ old.seen ++ more)
  pub legal : IsLegal start history
  pub owned : AreByOwners start history
  pub own : old.mine ≡ of_pass old.number history
  pub number : new.number ≡ old.number
  pub drawn : old.drawn ≤ new.drawn
  pub rested : old.waits ≡ false
  pub rests : new.waits ≡ false

-- an act was made after the history, and its record logged
pub record Logs (start : State) (old new : PassView) (history : List Record) (made : Record)
    : Type 0 where
  pub follows : MayFollow (state_after start history) made
  pub seen : new.seen ≡ history ++ made ∷ []
  pub mine : new.mine ≡ old.mine ++ made ∷ []

-- nothing was logged after the history
pub record LogsNone (old new : PassView) (history : List Record) : Type 0 where
  pub seen : new.seen ≡ history
  pub mine : new.mine ≡ old.mine

-- the pass had no turn: a ticket of 2^62 or more was drawn, now or earlier
pub record HasNoTurn (old new : PassView) (ticket : ℕ) : Type 0 where
  pub large : 2 ^ 62 ≤ ticket
  pub below : ticket < new.drawn
  pub drawn : old.drawn ≤ new.drawn
  pub number : new.number ≡ old.number
  pub waits : new.waits ≡ true
  pub seen : new.seen ≡ old.seen
  pub mine : new.mine ≡ old.mine

-- the record of an entry that was made so
abbrev pub record_in : Entry → Record → Record
record_in entry made = record { entry = entry; session = made.session; short = made.short }

-- an act was made, and took these items
abbrev pub WasMade : State → PassView → PassView → Entry → List Item → Record → Type 0
WasMade start old new entry items made =
    (history : List Record) × Sees start old new history
    × Logs start old new history (record_in entry made)
    × (items ≡ taken_by (state_after start history) entry.act)

-- this refused an act, or memory ran out where nothing did
abbrev pub WasRefused : State → PassView → PassView → Act → Option NotMade → Type 0
WasRefused start old new what refusal =
    (history : List Record) × Sees start old new history × LogsNone old new history
    × (refusal_of (state_after start history) what ≡ refusal)

-- How an act that a pass asked for ended: it was made; it was refused; no turn was left; or at a
-- Connect memory ran out.
abbrev pub Ends : State → PassView → PassView → Entry → List Item → Result Record NotMade → Type 0
Ends start old new entry items (Ok made) = WasMade start old new entry items made
Ends start old new entry items (Err (fault.Gone told)) =
    WasRefused start old new entry.act (Some (fault.Gone told))
Ends start old new entry items (Err (fault.Full number)) =
    HasNoTurn old new number ⊎ WasRefused start old new entry.act (Some (fault.Full number))
Ends start old new entry items (Err fault.Memory) =
    WasRefused start old new entry.act None × IsConnect entry.act

-- the entry that a desk hands in
abbrev pub entry_of : Kept → ℕ → Act → Entry
entry_of old moment what = record { pass = old.pass.number; moment = moment; act = what }

-- A desk had a turn for an act, which ended so and took these items.
pub record HadTurn (old : Kept) (moment : ℕ) (what : Act) (items : List Item)
    (made : Result Record NotMade) (new : Kept) : Type 0 where
  pub stood : Stands old
  pub ends : Ends old.start old.pass new.pass (entry_of old moment what) items made
  pub table : new.table ≡ old.table
  pub start : new.start ≡ old.start

-- It had one for an act that gives nothing, and logged how that was answered.
pub record IsActed (old : Kept) (moment : ℕ) (what : Act) (made : Result Record NotMade)
    (new : Kept) : Type 0 where
  pub items : List Item
  pub turn : HadTurn old moment what items made new
  pub tells : new.answers ≡ old.answers ++ (deed_of what, without_value made) ∷ []

-- what a flush is answered: the desk is stopped where the store refused it
abbrev pub said_flush : Result Record NotMade → Result ⊤ NotMade
said_flush (Ok made) = if made.short then Err (fault.Gone why.Stopped) else Ok tt
said_flush (Err one) = Err one

-- How the question whether the server is stopped ended.
abbrev pub AnswersStopped : State → PassView → PassView → Result Bool NotMade → Type 0
AnswersStopped start old new (Ok stopped) =
    (history : List Record) × Sees start old new history × LogsNone old new history
    × (let state = state_after start history in stopped ≡ (state.stopped || state.store_refused))
AnswersStopped start old new (Err (fault.Gone told)) = ⊥
AnswersStopped start old new (Err (fault.Full number)) = HasNoTurn old new number
AnswersStopped start old new (Err fault.Memory) = ⊥

-- A turn in which the server was looked at, or for which none was left.
abbrev pub Looks : State → PassView → PassView → Type 0
Looks start old new =
    ((history : List Record) × Sees start old new history × LogsNone old new history)
    ⊎ ((ticket : ℕ) × HasNoTurn old new ticket)
