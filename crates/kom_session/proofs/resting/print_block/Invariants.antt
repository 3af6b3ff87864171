-- What was printed so far, with the print of the items that are left, stays the same.
use Rattle.std.proofs.Common.{◌≡◌, ◌++◌, ◌-◌, ◌≤◌, length, drop}
use Rattle.std.specs.Prelude.{flat_map}
use Rattle.kom_types.specs.Printing.{print_of}
use Rattle.kom_session.proofs.resting.print_block.Given as goal

abbrev pub invariant-loop-printed : goal.invariant-loop-printed
invariant-loop-printed l =
    (l.writer.bytes ++ flat_map print_of (drop l.printed l.items) ≡ l.fn.writer.bytes
    ++ flat_map print_of (drop l.fn.printed l.items))
    × (length l.fn.writer.bytes ≤ length l.writer.bytes)

abbrev pub decreases-loop-printed : goal.decreases-loop-printed
decreases-loop-printed l = length l.items - l.printed
