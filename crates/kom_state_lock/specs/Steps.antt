-- What each step tells the pass that makes it.
use Rattle.std.specs.Prelude.{◌≡◌, ◌≢◌, ℕ, ◌<◌, ◌≤◌, ◌^◌, List, [], ◌∷◌, length, Option, Some, None}
use mathlib.Core.List.{IsPrefix}
use Rattle.atomic_table.specs.declared.shared.Seat.{Seat}
use Rattle.atomic_table.specs.Seated.{TableId}
use Rattle.atomic_table.specs.Table.{Me, rest}
use Rattle.kom_state_lock.specs.declared.views.Turn.TheVariants.{Waiting}
use Rattle.kom_state_lock.specs.declared.views.View.{View}
use Rattle.kom_state_lock.specs.Views.{entries_of, after_draw, after_take, after_log, after_hand_on}

abbrev SeatView : Type 0 → Type 0 → Type 0
SeatView B E = Me (Option B) (View B E)

-- the same seat of the same table
abbrev pub IsSameSeat : {S V : Type 0} → Seat S V → Seat S V → Type 0
IsSameSeat old new = (new.table_id ≡ old.table_id) × (new.id ≡ old.id)

-- the table of a hall has 24 words of which three count, 128 words to sleep on, and one slot
abbrev pub IsHallTable : TableId → Type 0
IsHallTable table = (table.words ≡ 152) × (table.slots ≡ 1)

abbrev pub IsSeatOf : {S V : Type 0} → TableId → Seat S V → Type 0
IsSeatOf table seat = IsHallTable table × (seat.table_id ≡ table)

module _ {B E : Type 0} where
  -- a draw gives the ticket that was next, which is above all that the seat knew of
  abbrev pub Draws : SeatView B E → ℕ → SeatView B E → Type 0
  Draws m found n = (n ≡ (after_draw found m.0, m.1)) × (m.0.drawn ≤ found)

  -- the slot comes with the value, and a history leads to it that goes on from what the seat has
  -- seen, and has of the seat what it knows as its own
  abbrev pub Takes : (E → ℕ) → (B → List E → B → Type 0) → B → ℕ
      → SeatView B E → SeatView B E → Type 0
  Takes pass_of led opening ticket m n =
      (value : B) × (history : List E)
      × (n ≡ (after_take ticket value history m.0, (0, Some value) ∷ m.1))
      × led opening history value × IsPrefix m.0.seen history × (length history ≤ ticket)
      × (m.0.mine ≡ entries_of pass_of m.0.number history)

  -- a look at the ticket that is served: another one changes nothing, the seat's own is its turn
  abbrev pub Looks : (E → ℕ) → (B → List E → B → Type 0) → Option B
      → SeatView B E → ℕ → SeatView B E → Type 0
  Looks pass_of led told m found n =
      (ticket : ℕ) (opening : B) → m.0.turn ≡ Waiting ticket → told ≡ Some opening
      → (found ≢ ticket → n ≡ m) × (found ≡ ticket → Takes pass_of led opening ticket m n)

  -- the entry and the value that are told are logged
  abbrev pub Logs : Option E → Option B → SeatView B E → SeatView B E → Type 0
  Logs told value m n =
      (entry : E) (left : B) → told ≡ Some entry → value ≡ Some left
      → n ≡ (after_log entry left m.0, m.1)

  -- the slot goes back
  abbrev pub HandsOn : SeatView B E → SeatView B E → Type 0
  HandsOn m n = n ≡ (after_hand_on m.0, rest m.1)

  -- a mark on a word to sleep on changes nothing
  abbrev pub Marks : SeatView B E → SeatView B E → Type 0
  Marks m n = n ≡ m

  -- a draw and a take together: the value has left the slot
  abbrev pub TakesAll : (E → ℕ) → (B → List E → B → Type 0) → B
      → View B E → B → SeatView B E → Type 0
  TakesAll pass_of led opening v value n =
      (ticket : ℕ) × (history : List E)
      × (n ≡ (after_take ticket value history (after_draw ticket v), (0, None) ∷ []))
      × (v.drawn ≤ ticket) × (ticket < 2 ^ 62)
      × led opening history value × IsPrefix v.seen history × (length history < 2 ^ 62)
      × (v.mine ≡ entries_of pass_of v.number history)
