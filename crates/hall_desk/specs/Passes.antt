-- What a desk knows of its pass.
use Rattle.std.specs.Prelude.{◌≡◌, ℕ, ◌<◌, ◌==◌, ◌^◌, Bool, true, false, List, map, filter}
use Rattle.std.specs.Prelude.{count_by}
use Rattle.kom_types.specs.declared.acts.Record.{Record}
use Rattle.kom_links.specs.Records.{is_connect}
use Rattle.kom_model.specs.State.{State}
use Rattle.kom_model.specs.Legal.{IsLegal, AreByOwners}
use Rattle.kom_state_lock.specs.declared.views.Turn.{Turn}
use Rattle.kom_state_lock.specs.declared.views.Turn.TheVariants.{Resting, Waiting, Holding}
use Rattle.kom_state_lock.specs.declared.views.Turn.TheVariants.{Logged, Spent, Closed}
use Rattle.kom_state_lock.specs.Passes.{PassModel}

-- A pass's number, the records that it has seen and its own among them, one more than the greatest
-- ticket that it knows to be drawn, and whether a ticket of its own has no turn.
pub record PassView : Type 0 where
  pub number : ℕ
  pub seen : List Record
  pub mine : List Record
  pub drawn : ℕ
  pub waits : Bool

module _ {B E : Type 0} where
  abbrev pub waits_in : Turn B E → Bool
  waits_in Resting = false
  waits_in (Waiting ticket) = true
  waits_in (Holding ticket taken before) = false
  waits_in (Logged ticket left) = false
  waits_in Spent = false
  waits_in Closed = false

  -- a pass of the lock, where each entry has the record of an act
  abbrev pub pass_view : (E → Record) → PassModel B E → PassView
  pass_view made pass = record {
    number = pass.number;
    seen = map made pass.seen;
    mine = map made pass.mine;
    drawn = pass.drawn;
    waits = waits_in pass.turn;
  }

-- the records of a history that are those of the pass of this number, in order
abbrev pub of_pass : ℕ → List Record → List Record
of_pass number history = filter (λ made. made.entry.pass == number) history

-- how many sessions these records connected
abbrev pub connects_in : List Record → ℕ
connects_in history = count_by (λ made. is_connect made.entry.act) history

-- What was seen is a legal history from this state on, in which each session's acts are made by the
-- pass that connected it; the pass's own records are all that it has of the pass; and a ticket that
-- has no turn is 2^62 or more.
pub record Knows (start : State) (pass : PassView) : Type 0 where
  pub legal : IsLegal start pass.seen
  pub owned : AreByOwners start pass.seen
  pub mine : pass.mine ≡ of_pass pass.number pass.seen
  pub refused : pass.waits ≡ true → 2 ^ 62 < pass.drawn
