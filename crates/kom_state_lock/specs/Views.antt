-- What a seat knows, before and after each step.
use Rattle.std.specs.Prelude.{ℕ, ◌+◌, ◌==◌, Bool, true, false, List, [], ◌∷◌, ◌++◌}
use Rattle.std.specs.Prelude.{length, filter, max, Option, Some, None, if◌then◌else◌, leb}
use Rattle.kom_state_lock.specs.declared.views.Turn.{Turn}
use Rattle.kom_state_lock.specs.declared.views.Turn.TheVariants.{Resting, Waiting, Holding}
use Rattle.kom_state_lock.specs.declared.views.Turn.TheVariants.{Logged, Spent, Closed}
use Rattle.kom_state_lock.specs.declared.views.Share.{Share}
use Rattle.kom_state_lock.specs.declared.views.View.{View}

-- the entries of the pass with this number, in order
abbrev pub entries_of : {E : Type 0} → (E → ℕ) → ℕ → List E → List E
entries_of pass_of number history = filter (λ e. pass_of e == number) history

-- the longer of two beginnings of one history
abbrev pub longer : {E : Type 0} → List E → List E → List E
longer one other = if leb (length one) (length other) then other else one

module _ {B E : Type 0} where
  -- the ticket, from the draw until the turn is handed on
  abbrev pub ticket_in : Turn B E → Option ℕ
  ticket_in Resting = None
  ticket_in (Waiting ticket) = Some ticket
  ticket_in (Holding ticket taken before) = Some ticket
  ticket_in (Logged ticket left) = Some ticket
  ticket_in Spent = None
  ticket_in Closed = None

  -- the same as a number, 0 where there is none
  abbrev pub ticket_of : Turn B E → ℕ
  ticket_of Resting = 0
  ticket_of (Waiting ticket) = ticket
  ticket_of (Holding ticket taken before) = ticket
  ticket_of (Logged ticket left) = ticket
  ticket_of Spent = 0
  ticket_of Closed = 0

  -- the seat takes no turn any more
  abbrev pub is_over : Turn B E → Bool
  is_over Resting = false
  is_over (Waiting ticket) = false
  is_over (Holding ticket taken before) = false
  is_over (Logged ticket left) = false
  is_over Spent = true
  is_over Closed = true

  -- the seat has its turn
  abbrev pub is_served : Turn B E → Bool
  is_served Resting = false
  is_served (Waiting ticket) = false
  is_served (Holding ticket taken before) = true
  is_served (Logged ticket left) = true
  is_served Spent = false
  is_served Closed = false

  -- the seat has a ticket, or had one that it kept when it was joined into another
  abbrev pub may_have_ticket : Turn B E → Bool
  may_have_ticket Resting = false
  may_have_ticket (Waiting ticket) = true
  may_have_ticket (Holding ticket taken before) = true
  may_have_ticket (Logged ticket left) = true
  may_have_ticket Spent = true
  may_have_ticket Closed = false

  -- a seat that the hall was made with
  abbrev pub is_original : Turn B E → Bool
  is_original Resting = true
  is_original (Waiting ticket) = true
  is_original (Holding ticket taken before) = true
  is_original (Logged ticket left) = true
  is_original Spent = true
  is_original Closed = false

  -- the history as it stands while the seat has its turn, where `seen` is what it has seen
  abbrev pub history_in : Turn B E → List E → List E
  history_in Resting seen = seen
  history_in (Waiting ticket) seen = seen
  history_in (Holding ticket taken before) seen = before
  history_in (Logged ticket left) seen = seen
  history_in Spent seen = seen
  history_in Closed seen = seen

  -- the slots that the seat has between two calls: the only one, emptied, while it has its turn
  abbrev pub slots_in : Turn B E → List (ℕ × Option B)
  slots_in Resting = []
  slots_in (Waiting ticket) = []
  slots_in (Holding ticket taken before) = (0, None) ∷ []
  slots_in (Logged ticket left) = (0, None) ∷ []
  slots_in Spent = []
  slots_in Closed = []

  -- a seat that has seen so much and has no entries
  abbrev pub newcomer : ℕ → List E → ℕ → ℕ → View B E
  newcomer number seen drawn next = record {
    number = number;
    seen = seen;
    mine = [];
    drawn = drawn;
    turn = Resting;
    joined = [];
    beginnings = [];
    next = next;
  }

  -- the first seat, before any other is made
  abbrev pub first_seat : View B E
  first_seat = newcomer 0 [] 0 1

  abbrev pub spent_seat : View B E
  spent_seat = record {
    number = 0;
    seen = [];
    mine = [];
    drawn = 0;
    turn = Spent;
    joined = [];
    beginnings = [];
    next = 0;
  }

  -- draw: the seat has this ticket
  abbrev pub after_draw : ℕ → View B E → View B E
  after_draw ticket v = record v { drawn = ticket + 1; turn = Waiting ticket }

  -- take: the turn begins with this value, to which this history leads
  abbrev pub after_take : ℕ → B → List E → View B E → View B E
  after_take ticket value history v = record v { turn = Holding ticket value history }

  -- log: the entry ends the history, which is now seen
  abbrev pub after_log : E → B → View B E → View B E
  after_log entry left v = record v {
    seen = history_in v.turn v.seen ++ entry ∷ [];
    mine = v.mine ++ entry ∷ [];
    turn = Logged (ticket_of v.turn) left;
  }

  -- hand on: the history as it stands is seen, and the ticket goes
  abbrev pub after_hand_on : View B E → View B E
  after_hand_on v = record v { seen = history_in v.turn v.seen; turn = Resting }

  -- split: the seat that splits, and the new one
  abbrev pub after_split : View B E → View B E
  after_split v = record v { next = v.next + 1 }

  abbrev pub split_off : View B E → View B E
  split_off v = newcomer v.next v.seen v.drawn 0

  -- join: the seat that takes another one in
  abbrev pub share_of : View B E → Share E
  share_of v = record { number = v.number; mine = v.mine }

  abbrev pub after_join : View B E → View B E → View B E
  after_join v w = record v {
    seen = longer v.seen w.seen;
    drawn = max v.drawn w.drawn;
    joined = (share_of w ∷ w.joined) ++ v.joined;
    beginnings = (v.seen ∷ w.seen ∷ w.beginnings) ++ v.beginnings;
  }

  -- close: the last seat splits no more, and leaves a note of what it knows
  abbrev pub after_close : View B E → View B E
  after_close v = record v { next = 0 }

  abbrev pub note_of : View B E → View B E
  note_of v = record v { turn = Closed; next = 0 }
