-- What a run leaves that sweeps a store.
use Rattle.std.specs.Prelude.{◌≡◌, ◌⊎◌, ◌≤◌, ℕ, false, true, List, [], ◌∷◌, Option}
use Rattle.kom_types.specs.declared.acts.Record.{Record}
use Rattle.kom_commands.specs.declared.cases.Cases.{Cases}
use Rattle.kom_commands.specs.Reports.{HasText, sweep_lines}
use Rattle.kom_links.specs.DeskCalls.{DeskView}
use Rattle.kom_links.specs.Doors.{SinkView}
use Rattle.kom_links.specs.Outside.{IsNothing}
use Rattle.kom_model.specs.State.{State, IsSound}
use Rattle.kom_model.specs.Legal.{IsLegal, AreByOwners}
use Rattle.kom_model.specs.Out.{out_of}
use Rattle.kom_model.specs.Laws.{all_given, IsPrefix as IsItemPrefix}
use Rattle.noninterference.specs.Hiding.{IsHiding}
use Rattle.hall_desk.specs.Desks.{Kept, Stands, desk_view}
use Rattle.kom_sweep.specs.declared.ends.SweepEnd.{SweepEnd}
use Rattle.kom_sweep.specs.declared.ends.SweepEnd.TheVariants as end
use Rattle.kom_sweep.specs.Acting.{sight}
use Rattle.kom_sweep.specs.Sweeps.{IsSweep}
use Rattle.store_check.specs.Stores.{IsWrong, IsUnswept}

-- what contracts see of the desk of pass 0 before its first act
abbrev pub new_desk : DeskView
new_desk = record {
  pass = 0;
  mine = [];
  gave_to = λ session. [];
  answers = [];
  lock_full = false;
}

-- What a desk knows that is the only one of its hall: all records are of its pass.
pub record IsOnlyDesk (start : State) (history : List Record) (drawn : ℕ)
    (desk : Kept) : Type 0 where
  pub start_of : desk.start ≡ start
  pub number : desk.pass.number ≡ 0
  pub seen_all : desk.pass.seen ≡ history
  pub made_all : desk.pass.mine ≡ history
  pub drawn_by : desk.pass.drawn ≤ drawn

-- What was seen is a legal history of the one-thread server from this sound state on, of which what
-- the rights hide changes nothing that others are sent. All of it was made by one desk, which each
-- time had a cause for its answer; and it is a sweep of that desk for this person, by one clock,
-- which ended so.
pub record IsSweepRun (start : State) (person : ℕ) (password : List ℕ) (first : Option ℕ)
    (history : List Record) (drawn : ℕ) (clocks : List (Option (List ℕ)))
    (ending : SweepEnd) : Type 0 where
  pub sound : IsSound start
  pub legal : IsLegal start history
  pub by_owners : AreByOwners start history
  pub in_order : (session : ℕ) →
      IsItemPrefix (all_given start session history) (out_of start session history)
  pub hides : IsHiding start history
  pub desk : Kept
  pub only : IsOnlyDesk start history drawn desk
  pub stands : Stands desk
  pub before : Option (List ℕ)
  pub gave : Option (List ℕ)
  pub unread : IsNothing before
  pub clock : clocks ≡ gave ∷ []
  pub sweeps : IsSweep person password first (sight new_desk before 1) (desk_view desk) gave ending

-- What the end of a sweep makes of its cases, and what is put to the sink: both counts, where the
-- store did not fail and memory for that did not run out.
abbrev pub IsMetBy : SweepEnd → Cases → SinkView → Type 0
IsMetBy (end.Done swept kept) cases sink =
    IsUnswept cases × (IsWrong cases ⊎ HasText (sweep_lines swept kept) sink)
IsMetBy (end.Refused code status) cases sink = cases.is_refused ≡ true
IsMetBy (end.Gone why) cases sink = (cases.is_refused ≡ false) × (cases.is_given_up ≡ true)
IsMetBy (end.Full number) cases sink = (cases.is_refused ≡ false) × (cases.is_given_up ≡ true)
IsMetBy end.Memory cases sink = IsUnswept cases × (cases.no_memory ≡ true)

-- The same of the exit status.
abbrev pub IsEndAt : SweepEnd → ℕ → SinkView → Type 0
IsEndAt (end.Done swept kept) status sink = (status ≡ 6)
    ⊎ (((status ≡ 0) ⊎ (status ≡ 7)) × HasText (sweep_lines swept kept) sink)
IsEndAt (end.Refused code refused) status sink = status ≡ 8
IsEndAt (end.Gone why) status sink = status ≡ 10
IsEndAt (end.Full number) status sink = status ≡ 10
IsEndAt end.Memory status sink = status ≡ 6
