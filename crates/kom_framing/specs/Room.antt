-- Room for the units that end with a piece.
use Rattle.std.specs.Prelude.{◌≡◌, ◌≢◌, ℕ, ◌+◌, ◌<◌, ◌≤◌}
use Rattle.std.specs.VecDeque.{deque_len, deque_capacity}
use Rattle.kom_framing.specs.declared.begun.Advanced.{Advanced}
use Rattle.kom_framing.specs.declared.begun.Advanced.TheVariants as advanced

-- There is room for the unit that has ended and for so many lines after it: where no other unit
-- waits, in the queue of the lines, else in the queue of the units.
pub record HasRoomFor (waiting capacity lines lines_capacity : ℕ) : Type 0 where
  pub alone : waiting ≡ 0 → lines < lines_capacity
  pub after : waiting ≢ 0 → waiting + (lines + 1) ≤ capacity

-- a queue of this length and this capacity has room for what has ended
abbrev pub HasRoom : ℕ → ℕ → Advanced → Type 0
HasRoom waiting capacity advanced.Goes = Unit {0}
HasRoom waiting capacity (advanced.Fails found) = Unit {0}
HasRoom waiting capacity (advanced.Ends count lines) =
    HasRoomFor waiting capacity (deque_len lines.whole) (deque_capacity lines.whole)
