-- What waits for a session, in a ring.
use Rattle.std.specs.Prelude.{◌≡◌, ℕ, ◌<◌, ◌≤◌, Bool, false, nat_lt, List, [], ◌∷◌}
use Rattle.kom_types.specs.declared.items.Item.{Item}
use Rattle.kom_types.specs.Sessions.{Waiting, waiting_limits, printed_bytes}

-- The ring has a place for each item that may wait; and the bytes that the items print to are
-- counted, and are no more than may wait.
pub record IsOutbox (waiting : List Waiting) (capacity printed : ℕ) : Type 0 where
  pub places : capacity ≡ waiting_limits.items
  pub counted : printed ≡ printed_bytes waiting
  pub bounded : printed ≤ waiting_limits.bytes

-- an item waits, and the first is of an entry below this one
abbrev pub is_below_first : ℕ → List Waiting → Bool
is_below_first below [] = false
is_below_first below (one ∷ rest) = nat_lt one.entry below

-- the first item is taken, whose entry is below this one
abbrev pub TakesFirstBelow : ℕ → List Waiting → List Waiting → Item → Type 0
TakesFirstBelow below old new taken =
    (entry : ℕ) × (old ≡ record { item = taken; entry = entry } ∷ new) × (entry < below)
