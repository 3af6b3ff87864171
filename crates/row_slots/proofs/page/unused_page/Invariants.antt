use Rattle.std.proofs.Common.{◌≡◌, vec_len}
use Rattle.std.specs.List.{AllByRecursion}
use Rattle.row_slots.specs.DenseLists.{IsUnusedList}
use Rattle.row_slots.proofs.page.unused_page.Given as goal

-- so many lists are there, and each is empty
abbrev pub invariant-loop : goal.invariant-loop
invariant-loop l = record {
  len : vec_len l.page ≡ l.counter;
  unused : AllByRecursion IsUnusedList l.page.items;
}
