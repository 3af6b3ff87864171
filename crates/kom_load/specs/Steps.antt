-- What is known of a server while a run makes its acts.
use Rattle.std.specs.Prelude.{◌≡◌, ℕ, ◌<◌, List}
use Rattle.std.specs.List.{AllByRecursion}
use Rattle.kom_types.specs.declared.acts.Act.TheVariants as act
use Rattle.kom_types.specs.declared.acts.Record.{Record}
use Rattle.kom_types.specs.declared.items.Item.{Item}
use Rattle.kom_types.specs.declared.items.Item.TheVariants as item
use Rattle.kom_model.specs.State.{State}
use Rattle.kom_model.specs.Legal.{IsLegal, state_after}
use Rattle.kom_model.specs.Out.{taken_by}
use Rattle.kom_load.specs.Loading.{lone_act}

-- these records were made, one after the other, and led from one state to another
pub record Leads (old : State) (history : List Record) (new : State) : Type 0 where
  pub legal : IsLegal old history
  pub state : new ≡ state_after old history

-- what session 1 takes once all that was done is stable
unfoldable pub taken_at : ℕ → State → List Item
taken_at moment state = taken_by (state_after state (lone_act moment 0 act.Flush)) (act.Drain 1)

-- a reply has a reference below this one
abbrev pub IsBefore : ℕ → Item → Type 0
IsBefore bound (item.Reply reference body) = reference < bound
IsBefore bound other = Unit {0}

-- so has each reply that waits
unfoldable pub AreBefore : ℕ → State → Type 0
AreBefore bound state = AllByRecursion
    (λ session. AllByRecursion (λ one. IsBefore bound one.item) session.waiting) state.sessions
