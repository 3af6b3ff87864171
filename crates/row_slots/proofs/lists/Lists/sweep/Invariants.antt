use Rattle.std.proofs.Common.{◌≡◌, ℕ}
use Rattle.row_slots.specs.Lists.{list_of}
use Rattle.row_slots.proofs.lists.Lists.sweep.Given as goal

-- every list stands as it did
abbrev pub invariant-loop : goal.invariant-loop
invariant-loop l = (key : ℕ) → list_of l.self key ≡ list_of l.fn.self key
