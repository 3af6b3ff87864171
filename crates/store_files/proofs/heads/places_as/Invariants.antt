use Rattle.std.proofs.Common.{◌≡◌, ◌≤◌, ◌+◌, ◌-◌, length, drop}
use Rattle.store_files.specs.Heads.{places_as}
use Rattle.store_files.proofs.heads.places_as.Given as goal

-- they are the same up to this place
abbrev pub invariant-loop-same : goal.invariant-loop-same
invariant-loop-same l = record {
  in_header : l.same ≤ length l.header;
  in_bytes : l.same ≤ length l.bytes;
  counts : places_as l.header l.bytes ≡ l.same + places_as (drop l.same l.header) (drop l.same l.bytes);
}

abbrev pub decreases-loop-same : goal.decreases-loop-same
decreases-loop-same l = length l.bytes - l.same
