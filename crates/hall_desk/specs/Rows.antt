-- What the calls of a desk in a hall are answered, exactly.
use Rattle.std.specs.Prelude.{◌≡◌, ℕ, ◌^◌, ◌<◌, ◌≤◌, ◌⊎◌, ◌||◌, Bool, true, false, List, [], ◌∷◌}
use Rattle.std.specs.Prelude.{◌++◌, Some, None, Result, Ok, Err}
use Rattle.kom_types.specs.declared.acts.Act.{Act}
use Rattle.kom_types.specs.declared.acts.Act.TheVariants as act
use Rattle.kom_types.specs.declared.acts.Record.{Record}
use Rattle.kom_types.specs.declared.answers.Why.TheVariants as why
use Rattle.kom_types.specs.declared.answers.NotMade.{NotMade}
use Rattle.kom_types.specs.declared.answers.NotMade.TheVariants as fault
use Rattle.kom_model.specs.State.{State}
use Rattle.kom_model.specs.Refusal.{refusal_of}
use Rattle.kom_model.specs.Legal.{state_after}
use Rattle.hall_desk.specs.Passes.{PassView}

-- Nothing refuses the act after what was seen before the last record, which is that of the act.
abbrev pub WasPossible : State → PassView → Act → Bool → Type 0
WasPossible start pass what short =
    (history : List Record) × (made : Record) × (pass.seen ≡ history ++ made ∷ [])
    × (made.entry.act ≡ what) × (refusal_of (state_after start history) what ≡ None)
    × (what ≡ act.Flush → made.short ≡ short)

-- the ticket that was drawn is this one, and has no turn
abbrev pub IsLastTicket : PassView → ℕ → Type 0
IsLastTicket pass number = (2 ^ 62 ≤ number) × (number < pass.drawn) × (pass.waits ≡ true)

-- How an act was answered, by what the pass has seen then: it was made where nothing refuses it; it
-- was refused where that says so after all that was seen; the server is stopped also where this
-- very flush was refused by its store; and no turn is left where the ticket says so. Memory may run
-- out at a Connect.
abbrev pub IsAnswer : {X : Type 0} → State → PassView → Act → Result X NotMade → Type 0
IsAnswer start pass what (Ok value) = WasPossible start pass what false
IsAnswer start pass what (Err (fault.Gone told)) =
    (refusal_of (state_after start pass.seen) what ≡ Some (fault.Gone told))
    ⊎ ((told ≡ why.Stopped) × (what ≡ act.Flush) × WasPossible start pass what true)
IsAnswer start pass what (Err (fault.Full number)) =
    IsLastTicket pass number
    ⊎ (refusal_of (state_after start pass.seen) what ≡ Some (fault.Full number))
IsAnswer start pass what (Err fault.Memory) =
    (user host : List ℕ) × (what ≡ act.Connect user host)

-- The server is stopped exactly where it was shut down or its store refused a flush.
abbrev pub IsStopped : State → PassView → Result Bool NotMade → Type 0
IsStopped start pass (Ok stopped) =
    let state = state_after start pass.seen in stopped ≡ (state.stopped || state.store_refused)
IsStopped start pass (Err (fault.Gone told)) = ⊥
IsStopped start pass (Err (fault.Full number)) = IsLastTicket pass number
IsStopped start pass (Err fault.Memory) = ⊥
