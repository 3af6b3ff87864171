-- What is true of a hall's table between any two steps.
-- Three of its words count: the next ticket, the ticket that is served, and the length of the
-- history. They lie 64 bytes apart, so that no two share a cache line. The rule asks nothing of the
-- other words. The table's one slot has the value.
use Rattle.std.specs.Prelude.{◌≡◌, ℕ, ◌+◌, ◌^◌, ◌<◌, ◌≤◌, ◌⊎◌, true, false}
use Rattle.std.specs.Prelude.{List, [], ◌∷◌, length, count_by, Option, Some}
use mathlib.Core.List.{IsPrefix}
use mathlib.Core.Option as maybe
use lib.ListN.{get_elem?}
use Rattle.atomic_table.specs.Table.{State}
use Rattle.kom_state_lock.specs.declared.views.Turn.{Turn}
use Rattle.kom_state_lock.specs.declared.views.Turn.TheVariants.{Resting, Waiting, Holding}
use Rattle.kom_state_lock.specs.declared.views.Turn.TheVariants.{Logged, Spent, Closed}
use Rattle.kom_state_lock.specs.declared.views.Share.{Share}
use Rattle.kom_state_lock.specs.declared.views.View.{View}
use Rattle.kom_state_lock.specs.Views.{entries_of, ticket_in, is_over, is_served}
use Rattle.kom_state_lock.specs.Views.{may_have_ticket, is_original, spent_seat}

-- the words that count
pub record AreWords (ticket serving long : ℕ) (words : List ℕ) : Type 0 where
  pub next : get_elem? words 0 ≡ maybe.some ticket
  pub now : get_elem? words 8 ≡ maybe.some serving
  pub written : get_elem? words 16 ≡ maybe.some long

-- the slot, at home with a value, or out with a seat
abbrev pub at_home : {B : Type 0} → B → List (maybe.Option (Option B))
at_home value = maybe.some (Some value) ∷ []

abbrev pub is_out : {B : Type 0} → List (maybe.Option (Option B))
is_out = maybe.none ∷ []

module _ {B E : Type 0} (pass_of : E → ℕ) (led : B → List E → B → Type 0) (opening : B) where
  -- the ticket is served, and the slot is out
  pub record IsServed (ticket serving : ℕ) (homes : List (maybe.Option (Option B))) (mine : ℕ)
      : Type 0 where
    pub now : mine ≡ serving
    pub drawn : mine < ticket
    pub few : mine < 2 ^ 62
    pub out : homes ≡ is_out

  -- a turn that is not logged: the history leads to the value that was taken
  pub record IsHolding (serving : ℕ) (history : List E) (taken : B) (before : List E)
      : Type 0 where
    pub whole : before ≡ history
    pub leads : led opening history taken
    pub short : length history ≤ serving

  -- a turn that is logged: the history, which its seat has seen, leads to the value that was logged
  pub record IsLogged (serving : ℕ) (history : List E) (left : B) (seen : List E) : Type 0 where
    pub whole : seen ≡ history
    pub leads : led opening history left
    pub short : length history ≤ serving + 1

  -- what the turn of a seat says, by how far it is
  abbrev pub InTurn : ℕ → ℕ → List E → List (maybe.Option (Option B)) → List E → Turn B E
      → Type 0
  InTurn ticket serving history homes seen Resting = Unit {0}
  InTurn ticket serving history homes seen (Waiting mine) = (serving ≤ mine) × (mine < ticket)
  InTurn ticket serving history homes seen (Holding mine taken before) =
      IsServed ticket serving homes mine × IsHolding serving history taken before
  InTurn ticket serving history homes seen (Logged mine left) =
      IsServed ticket serving homes mine × IsLogged serving history left seen
  InTurn ticket serving history homes seen Spent = Unit {0}
  InTurn ticket serving history homes seen Closed = Unit {0}

  -- a seat that was joined is spent, and its own entries are still all of its number
  pub record IsJoined (history : List E) (views : List (View B E)) (share : Share E) : Type 0 where
    pub spent : get_elem? views share.number ≡ maybe.some spent_seat
    pub mine : share.mine ≡ entries_of pass_of share.number history

  -- what is true of the seat at the place i, as long as it takes turns
  pub record IsSeated (passes ticket serving : ℕ) (history : List E)
      (homes : List (maybe.Option (Option B))) (views : List (View B E)) (i : ℕ) (v : View B E)
      : Type 0 where
    pub number : v.number ≡ i
    pub within : i < passes
    pub seen : IsPrefix v.seen history
    pub mine : v.mine ≡ entries_of pass_of i history
    pub drawn : v.drawn ≤ ticket
    pub turn : InTurn ticket serving history homes v.seen v.turn
    pub joined : (k : ℕ) (share : Share E) → get_elem? v.joined k ≡ maybe.some share
        → IsJoined history views share
    pub beginnings : (k : ℕ) (seen : List E) → get_elem? v.beginnings k ≡ maybe.some seen
        → IsPrefix seen history
    pub next : 0 < v.next → (i ≡ 0) × (v.next ≡ length views)

  -- at home the slot is full, and the history leads to its value
  abbrev pub IsHome : ℕ → List E → List (maybe.Option (Option B)) → Type 0
  IsHome serving history homes = (value : B) × (homes ≡ at_home value)
      × led opening history value × (length history ≤ serving)

  -- the slot is out with a seat that has its turn
  abbrev pub IsAway : List (maybe.Option (Option B)) → List (View B E) → Type 0
  IsAway homes views = (i : ℕ) × (v : View B E) × (get_elem? views i ≡ maybe.some v)
      × (is_served v.turn ≡ true) × (homes ≡ is_out)

  -- some seat has seen the whole history
  abbrev pub IsKnown : List E → List (View B E) → Type 0
  IsKnown history views = (i : ℕ) × (v : View B E) × (get_elem? views i ≡ maybe.some v)
      × (is_over v.turn ≡ false) × (v.seen ≡ history)

  pub record Stands (passes ticket serving : ℕ) (history : List E)
      (homes : List (maybe.Option (Option B))) (views : List (View B E)) : Type 0 where
    pub few : passes ≤ 65
    pub ordered : serving ≤ ticket
    pub served : serving ≤ 2 ^ 62
    pub seats : count_by (λ (v : View B E). is_original v.turn) views ≤ passes
    pub tickets : ticket ≤ serving + count_by (λ (v : View B E). may_have_ticket v.turn) views
    pub slot : IsHome serving history homes ⊎ IsAway homes views
    pub each : (i : ℕ) (v : View B E) → get_elem? views i ≡ maybe.some v → is_over v.turn ≡ false
        → IsSeated passes ticket serving history homes views i v
    pub apart : (i j : ℕ) (v w : View B E) (mine : ℕ)
        → get_elem? views i ≡ maybe.some v → get_elem? views j ≡ maybe.some w
        → ticket_in v.turn ≡ Some mine → ticket_in w.turn ≡ Some mine → i ≡ j
    pub unborn : (n : ℕ) → length views ≤ n → entries_of pass_of n history ≡ []
    pub strangers : (n : ℕ) → passes ≤ n → entries_of pass_of n history ≡ []
    pub known : IsKnown history views

  -- there is one history, as long as its word says
  pub record Rule (passes : ℕ) (s : State (Option B) (View B E)) : Type 0 where
    pub ticket : ℕ
    pub serving : ℕ
    pub history : List E
    pub words : AreWords ticket serving (length history) s.words
    pub stands : Stands passes ticket serving history s.homes s.views
