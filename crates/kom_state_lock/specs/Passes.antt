-- What contracts see of a hall and of a pass.
use Rattle.std.specs.Prelude.{◌≡◌, ℕ, ◌+◌, ◌^◌, ◌<◌, ◌≤◌, ◌⊎◌, List, ◌++◌, ◌∷◌, []}
use Rattle.std.specs.Prelude.{length, slice_get, slice_index_or, Option, Some, None}
use mathlib.Core.List.{IsPrefix}
use Rattle.atomic_table.specs.Seated.{TableId}
use Rattle.atomic_table.specs.Table.{Me}
use Rattle.kom_state_lock.specs.declared.views.View.{View}
use Rattle.kom_state_lock.specs.Views.{entries_of, ticket_of, slots_in, history_in}
use Rattle.kom_state_lock.specs.declared.views.Turn.{Turn}
use Rattle.kom_state_lock.specs.declared.views.Turn.TheVariants.{Resting, Waiting, Holding}
use Rattle.kom_state_lock.specs.declared.views.Turn.TheVariants.{Logged, Spent, Closed}

-- a hall: its table, the value that it was made with, and how many passes it has
pub record HallModel (B : Type 0) : Type 0 where
  pub table : TableId
  pub opening : B
  pub passes : ℕ

-- a pass: the table of its hall, its number, what it has seen of the history and its own entries in
-- it, one more than the greatest ticket that it knows to be drawn, and its turn
pub record PassModel (B E : Type 0) : Type 0 where
  pub table : TableId
  pub number : ℕ
  pub seen : List E
  pub mine : List E
  pub drawn : ℕ
  pub turn : Turn B E

module _ {B E : Type 0} where
  abbrev pub pass_model : TableId → View B E → PassModel B E
  pass_model table v = record {
    table = table;
    number = v.number;
    seen = v.seen;
    mine = v.mine;
    drawn = v.drawn;
    turn = v.turn;
  }

  -- the ticket that was drawn and has no turn yet
  abbrev pub refused_in : Turn B E → Option ℕ
  refused_in Resting = None
  refused_in (Waiting ticket) = Some ticket
  refused_in (Holding ticket taken before) = None
  refused_in (Logged ticket left) = None
  refused_in Spent = None
  refused_in Closed = None

  -- between two calls: the seat has its number and its slots, and a ticket that waits was refused
  pub record IsPass (number : ℕ) (refused : Option ℕ) (me : Me (Option B) (View B E)) : Type 0 where
    pub numbered : number ≡ me.0.number
    pub carries : me.1 ≡ slots_in me.0.turn
    pub full : refused ≡ refused_in me.0.turn
    pub large : (ticket : ℕ) → me.0.turn ≡ Waiting ticket → 2 ^ 62 ≤ ticket
    pub below : (ticket : ℕ) → me.0.turn ≡ Waiting ticket → ticket < me.0.drawn

  -- a pass that has taken no turn
  abbrev pub new_pass : TableId → ℕ → PassModel B E
  new_pass table number = record {
    table = table;
    number = number;
    seen = [];
    mine = [];
    drawn = 0;
    turn = Resting;
  }

  -- each pass stands at the place that is its number
  abbrev pub AreNewPasses : TableId → ℕ → List (PassModel B E) → Type 0
  AreNewPasses table count passes = (length passes ≡ count)
      × ((number : ℕ) → number < count → slice_get passes number ≡ Some (new_pass table number))

  abbrev pub drawn_by : PassModel B E → ℕ
  drawn_by pass = pass.drawn

  abbrev pub number_of : PassModel B E → ℕ
  number_of pass = pass.number

  abbrev pub IsPassOf : HallModel B → PassModel B E → Type 0
  IsPassOf hall pass = pass.table ≡ hall.table

  -- the pass holds no turn
  abbrev pub HoldsNoTurn : Turn B E → Type 0
  HoldsNoTurn Resting = Unit {0}
  HoldsNoTurn (Waiting ticket) = Unit {0}
  HoldsNoTurn (Holding ticket taken before) = ⊥
  HoldsNoTurn (Logged ticket left) = ⊥
  HoldsNoTurn Spent = ⊥
  HoldsNoTurn Closed = ⊥

  -- all passes of a hall, each at the place that is its number, and none holds a turn
  pub record IsReady (hall : HallModel B) (place : ℕ) (pass : PassModel B E) : Type 0 where
    pub table : IsPassOf hall pass
    pub number : number_of pass ≡ place
    pub free : HoldsNoTurn pass.turn

  pub record AreReady (hall : HallModel B) (passes : List (PassModel B E)) : Type 0 where
    pub long : length passes ≡ hall.passes
    pub each : (k : ℕ) (d : PassModel B E) → k < length passes
        → IsReady hall k (slice_index_or passes k d)

  -- the same of all passes but the last one, which whoever made the hall keeps
  pub record AreReadyButLast (hall : HallModel B) (passes : List (PassModel B E)) : Type 0 where
    pub long : length passes + 1 ≡ hall.passes
    pub each : (k : ℕ) (d : PassModel B E) → k < length passes
        → IsReady hall k (slice_index_or passes k d)

  -- the last pass of a hall, which holds no turn
  pub record IsReadyLast (hall : HallModel B) (pass : PassModel B E) : Type 0 where
    pub table : IsPassOf hall pass
    pub last : number_of pass + 1 ≡ hall.passes
    pub free : HoldsNoTurn pass.turn

  -- the turn is not logged, and the value follows by the entry from the one that was taken
  abbrev pub MayLog : (B → E → B → Type 0) → Turn B E → E → B → Type 0
  MayLog follows (Holding ticket taken before) entry value = follows taken entry value
  MayLog follows Resting entry value = ⊥
  MayLog follows (Waiting ticket) entry value = ⊥
  MayLog follows (Logged ticket left) entry value = ⊥
  MayLog follows Spent entry value = ⊥
  MayLog follows Closed entry value = ⊥

  -- the value is the one that was logged; or nothing was logged, and the value means what the one
  -- that was taken does
  abbrev pub MayPut : (B → B → Type 0) → Turn B E → B → Type 0
  MayPut stays (Holding ticket taken before) value = stays taken value
  MayPut stays (Logged ticket left) value = value ≡ left
  MayPut stays Resting value = ⊥
  MayPut stays (Waiting ticket) value = ⊥
  MayPut stays Spent value = ⊥
  MayPut stays Closed value = ⊥

  -- the turn begins with a value to which a history leads that goes on from what the pass has seen,
  -- and all that this history has of the pass it knows as its own
  abbrev pub TakesTurn : (E → ℕ) → (B → List E → B → Type 0) → HallModel B
      → PassModel B E → B → PassModel B E → Type 0
  TakesTurn pass_of led hall old value new =
      (ticket : ℕ) × (history : List E)
      × (new ≡ record old { drawn = ticket + 1; turn = Holding ticket value history })
      × (old.drawn ≤ ticket) × (ticket < 2 ^ 62)
      × led hall.opening history value × IsPrefix old.seen history × (length history < 2 ^ 62)
      × (old.mine ≡ entries_of pass_of old.number history)

  -- the ticket that was drawn, now or by an earlier call, is 2^62 or more
  abbrev pub RefusesTurn : PassModel B E → ℕ → PassModel B E → Type 0
  RefusesTurn old ticket new =
      (2 ^ 62 ≤ ticket)
      × (((old.turn ≡ Waiting ticket) × (new ≡ old))
      ⊎ ((old.turn ≡ Resting) × (old.drawn ≤ ticket)
      × (new ≡ record old { drawn = ticket + 1; turn = Waiting ticket })))

  -- the history with the entry at its end is seen, and the entry is one more of the pass
  abbrev pub logged_pass : E → B → PassModel B E → PassModel B E
  logged_pass entry value pass = record pass {
    seen = history_in pass.turn pass.seen ++ entry ∷ [];
    mine = pass.mine ++ entry ∷ [];
    turn = Logged (ticket_of pass.turn) value;
  }

  -- the history as it stood in the turn is seen
  abbrev pub resting_pass : PassModel B E → PassModel B E
  resting_pass pass = record pass { seen = history_in pass.turn pass.seen; turn = Resting }

  -- in the closing history, the entries of a pass are those that it knows as its own, and what it
  -- had seen is a prefix
  pub record IsClosed (pass_of : E → ℕ) (last pass : PassModel B E) : Type 0 where
    pub mine : pass.mine ≡ entries_of pass_of pass.number last.seen
    pub seen : IsPrefix pass.seen last.seen
    pub drawn : pass.drawn ≤ last.drawn
