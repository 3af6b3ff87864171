-- The rows of the sessions, in the order of their numbers.
use Rattle.std.specs.Prelude.{◌≡◌, ℕ, ◌<◌, Bool, not, ◌&&◌, List, [], ◌∷◌, map}
use Rattle.std.specs.Prelude.{if◌then◌else◌}
use Rattle.std.specs.List.{AllByRecursion}
use Rattle.indexmap.specs.IndexMap.{IndexMap, keys, values}
use Rattle.kom_types.specs.declared.items.Item.{Item}
use Rattle.kom_types.specs.Sessions.{Session, is_session, fits, waiting_limits}

-- the numbers of the rows
abbrev pub numbers_of : List Session → List ℕ
numbers_of rows = map (λ row. row.seat.number) rows

-- the numbers of all rows are below this one
abbrev pub AllBelow : ℕ → List Session → Type 0
AllBelow number rows = AllByRecursion (λ row. row.seat.number < number) rows

-- each row has a smaller number than those after it
abbrev pub IsRising : List Session → Type 0
IsRising [] = Unit {0}
IsRising (row ∷ rows) =
    AllByRecursion (λ later. row.seat.number < later.seat.number) rows × IsRising rows

-- each row is kept under its number
abbrev pub AreNumbered : {S : Type 0} → IndexMap ℕ Session S → Type 0
AreNumbered map = keys map ≡ numbers_of (values map)

-- with this change in the row of a session
abbrev pub with_row : ℕ → (Session → Session) → List Session → List Session
with_row session change rows = map (λ row. if is_session session row then change row else row) rows

-- whether an item is queued for a session: it is not overrun, and the item still fits
abbrev pub takes : Item → Session → Bool
takes item session = not session.overrun && fits waiting_limits session.waiting item
