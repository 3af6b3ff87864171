-- What holds of every legal history.
use Rattle.std.specs.Prelude.{◌≡◌, ℕ, ◌+◌, ◌<◌, ◌≤◌, true, false, List, [], ◌∷◌, ◌++◌, length}
use Rattle.std.specs.Prelude.{flat_map}
use Rattle.std.specs.Prelude.{Some, IsTrue, ◌↔◌}
use Rattle.std.specs.List.{AllByRecursion}
use Rattle.kom_types.specs.declared.limits.TheConstants.{MOST_WAITING_BYTES, MOST_WAITING_ITEMS}
use Rattle.kom_types.specs.declared.acts.Act.TheVariants as act
use Rattle.kom_types.specs.declared.acts.Record.{Record}
use Rattle.kom_types.specs.declared.answers.NotMade.TheVariants.{Gone}
use Rattle.kom_types.specs.declared.answers.Why.TheVariants.{Dropped}
use Rattle.kom_types.specs.declared.effects.Effect.{Effect}
use Rattle.kom_types.specs.declared.items.Item.{Item}
use Rattle.kom_types.specs.Printing.{print_of}
use Rattle.kom_types.specs.Sessions.{Waiting, waiting_limits, fits, printed_bytes}
use Rattle.kom_model.specs.State.{State, IsSound}
use Rattle.kom_model.specs.Db.{Db}
use Rattle.kom_model.specs.Effects.{apply_all, all_fit, fitting_effects}
use Rattle.kom_model.specs.After.{MayFollow, after}
use Rattle.kom_model.specs.Kept.{kept_of}
use Rattle.kom_model.specs.Legal.{IsLegal, state_after}
use Rattle.kom_model.specs.Out.{out_of, given_along, given_from, drained_from}
use Rattle.kom_model.specs.Refusal.{refusal_of}

-- the first list is a prefix of the second
abbrev pub IsPrefix : List Item → List Item → Type 0
IsPrefix prefix whole = (more : List Item) × (prefix ++ more ≡ whole)

-- all that the drains of a session gave along a history
abbrev pub all_given : State → ℕ → List Record → List Item
all_given state number history = flat_map (λ items. items) (given_along state number history)

-- What the drains of a session give, one after the other, is a prefix of what it is to be sent.
abbrev pub GivesPrefixes : Type 0
GivesPrefixes =
    (state : State) (number : ℕ) (history : List Record) → IsSound state → IsLegal state history →
    IsPrefix (all_given state number history) (out_of state number history)

-- A drain takes items of entries below the stable number alone.
abbrev pub GivesStable : Type 0
GivesStable = (state : State) (number : ℕ) →
    AllByRecursion (λ one. one.entry < state.stable) (drained_from number state)

-- a drain of the session that gives nothing may follow after this history
abbrev pub GivesNothing : State → ℕ → List Record → Record → Type 0
GivesNothing state number history drain =
    (drain.entry.act ≡ act.Drain number) × MayFollow (state_after state history) drain
    × (given_from number (state_after state history) ≡ [])

-- Once a drain after a flush that the store took gives nothing, all was given that was to be sent
-- before the flush.
abbrev pub GivesAllBefore : Type 0
GivesAllBefore =
    (state : State) (number : ℕ) (before between : List Record) (flush drain : Record) →
    IsSound state →
    IsLegal state (before ++ flush ∷ between) → flush.entry.act ≡ act.Flush → flush.short ≡ false →
    GivesNothing state number (before ++ flush ∷ between) drain →
    IsPrefix (out_of state number before) (all_given state number (before ++ flush ∷ between))

-- A drain is refused as dropped only where all was given that the session was to be sent.
abbrev pub GivesAllToDropped : Type 0
GivesAllToDropped =
    (state : State) (number : ℕ) (history : List Record) → IsSound state → IsLegal state history →
    refusal_of (state_after state history) (act.Drain number) ≡ Some (Gone Dropped) →
    all_given state number history ≡ out_of state number history

-- A legal history keeps a sound state sound.
abbrev pub StaysSound : Type 0
StaysSound =
    (state : State) (history : List Record) → IsSound state → IsLegal state history →
    IsSound (state_after state history)

-- An item still fits exactly where fewer items wait than may, and all of them with it print to no
-- more bytes than may wait.
abbrev pub FitsWithin : Type 0
FitsWithin = (waiting : List Waiting) (item : Item) →
    IsTrue (fits waiting_limits waiting item)
    ↔ ((length waiting < MOST_WAITING_ITEMS)
    × (printed_bytes waiting + length (print_of item) ≤ MOST_WAITING_BYTES))

-- What is kept of a record all fits, and makes of the rows what the record makes of them.
abbrev pub KeptFits : Type 0
KeptFits = (state : State) (made : Record) → all_fit (kept_of state made) state.db ≡ true

abbrev pub KeptMakes : Type 0
KeptMakes = (state : State) (made : Record) →
    apply_all (kept_of state made) state.db ≡ (after state made).db

-- Effects that all fit are all kept.
abbrev pub FittingIsAll : Type 0
FittingIsAll = (effects : List Effect) (db : Db) → all_fit effects db ≡ true →
    fitting_effects effects db ≡ effects
