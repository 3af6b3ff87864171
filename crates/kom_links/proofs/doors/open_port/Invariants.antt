-- The gates so far are new ones, and there is room for the others.
use Rattle.std.proofs.Common.{◌≡◌, ◌≤◌, false, vec_len, vec_capacity}
use Rattle.std.specs.List.{AllByRecursion}
use Rattle.kom_links.proofs.doors.open_port.Given as goal

abbrev pub invariant-loop-count : goal.invariant-loop-count
invariant-loop-count g l = record {
  fresh : AllByRecursion (λ gate. (gate.has_ended ≡ false) × (gate.faults ≡ 0)) l.gates.items;
  len : vec_len l.gates ≡ l.count;
  room : l.fn.number ≤ vec_capacity l.gates;
}
