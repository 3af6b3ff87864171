use Rattle.std.proofs.Common.{◌≡◌, ◌+◌, ◌*◌, ◌≤◌, ◌<◌, false, take}
use Rattle.kom_framing.specs.Writing.{put_numbers, written_to}
use Rattle.kom_framing.proofs.placing.place_numbers.Given as goal

-- the numbers so far
abbrev pub invariant-loop-value : goal.invariant-loop-value
invariant-loop-value l = record {
  room : l.at ≤ l.used + 11 * l.value-index;
  written : written_to l.at l.out l.joined ≡ put_numbers (take l.value-index l.values)
      (written_to l.used l.fn.out l.fn.joined);
  apart : 0 < l.value-index → l.joined ≡ false;
}
