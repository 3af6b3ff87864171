-- What the calls of a sweep make of the stored rows.
use Rattle.std.specs.Prelude.{◌≡◌, ℕ, Bool, true, List, [], ◌∷◌, ◌++◌}
use Rattle.std.specs.Prelude.{if◌then◌else◌}
use Rattle.std.specs.List.{AllByRecursion}
use Rattle.kom_types.specs.declared.acts.Act.{Act}
use Rattle.kom_types.specs.declared.acts.Act.TheVariants as act
use Rattle.kom_types.specs.declared.acts.Record.{Record}
use Rattle.kom_types.specs.declared.calls.Call.{Call}
use Rattle.kom_types.specs.declared.calls.Call.TheVariants as call
use Rattle.kom_model.specs.After.{after, reply_in}
use Rattle.kom_model.specs.Legal.{IsLegal, state_after}
use Rattle.kom_model.specs.State.{State, IsSound}
use Rattle.kom_model.specs.Whole.{IsWhole}
use Rattle.kom_sweep.specs.Replies.{is_refused}
use Rattle.kom_sweep.specs.Told.{asks}
use Rattle.sweep_laws.specs.Without.{IsWithout, without_texts}

-- the text that a call is to delete, if it is delete-text
abbrev pub deleted_in : Call → List ℕ
deleted_in (call.DeleteText text) = text ∷ []
deleted_in _ = []

-- the same of an act
abbrev pub named_in : Act → List ℕ
named_in (act.Connect user host) = []
named_in (act.Call session reference call) = deleted_in call
named_in (act.Broken session) = []
named_in (act.Drain session) = []
named_in act.Flush = []
named_in (act.Close session) = []

-- the text that a record deletes, if it deletes one: its call is delete-text, and not refused
abbrev pub deleted_by : State → Record → List ℕ
deleted_by state made =
    if is_refused (reply_in state made) then [] else named_in made.entry.act

-- the texts that the records of a history delete, in order
abbrev pub deleted_along : State → List Record → List ℕ
deleted_along state [] = []
deleted_along state (made ∷ history) =
    deleted_by state made ++ deleted_along (after state made) history

-- A call of a sweep beside delete-text: login, or one that asks, enables, has all made stable, or
-- logs out.
abbrev pub is_other_call : Call → Bool
is_other_call (call.Login person password invisible) = true
is_other_call call = asks call

-- a call of a sweep
abbrev pub is_swept_call : Call → Bool
is_swept_call (call.DeleteText text) = true
is_swept_call call = is_other_call call

-- an act whose call passes a test, if it is one
abbrev pub passes : (Call → Bool) → Act → Bool
passes test (act.Connect user host) = true
passes test (act.Call session reference call) = test call
passes test (act.Broken session) = true
passes test (act.Drain session) = true
passes test act.Flush = true
passes test (act.Close session) = true

-- By delete-text whole rows become the same without its text; where the call is refused, they
-- stay.
abbrev pub DeletionLeaves : Type 0
DeletionLeaves = (state : State) (made : Record) (text : ℕ) → IsWhole state.db →
    named_in made.entry.act ≡ text ∷ [] →
    (after state made).db ≡ without_texts (deleted_by state made) state.db

-- By no other act of a sweep does a text go, or change.
abbrev pub OtherLeaves : Type 0
OtherLeaves = (state : State) (made : Record) → passes is_other_call made.entry.act ≡ true →
    IsWithout [] state.db (after state made).db

-- So along a legal history of such acts the texts go that its records delete, and nothing else.
abbrev pub HistoryLeaves : Type 0
HistoryLeaves = (state : State) (history : List Record) → IsSound state → IsLegal state history →
    AllByRecursion (λ made. passes is_swept_call made.entry.act ≡ true) history →
    IsWithout (deleted_along state history) state.db (state_after state history).db
