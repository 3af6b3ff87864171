-- How often a world was asked for what it has.
use Rattle.std.specs.Prelude.{ℕ, ◌+◌, ◌-◌, ◌^◌, min, Bool, true, false}
use Rattle.kom_links.specs.declared.world_counts.WorldCounts.{WorldCounts}

-- the number of the call that follows this many calls; the count stands still at 2^64 - 1
abbrev pub next_call : ℕ → ℕ
next_call made = min (made + 1) (2 ^ 64 - 1)

-- once more for gates at a port, which it gave or refused
abbrev pub with_port : Bool → WorldCounts → WorldCounts
with_port true counts =
    record counts { ports = next_call counts.ports; opened = next_call counts.opened }
with_port false counts = record counts { ports = next_call counts.ports }

-- once more for its gate, which it gave or refused
abbrev pub with_gate : Bool → WorldCounts → WorldCounts
with_gate true counts =
    record counts { gates = next_call counts.gates; given = next_call counts.given }
with_gate false counts = record counts { gates = next_call counts.gates }

-- once more for a clock
abbrev pub with_clock : WorldCounts → WorldCounts
with_clock counts = record counts { clocks = next_call counts.clocks }

-- once more for a sink
abbrev pub with_sink : WorldCounts → WorldCounts
with_sink counts = record counts { sinks = next_call counts.sinks }

-- once more for a disk, which it opened or refused
abbrev pub with_disk : Bool → WorldCounts → WorldCounts
with_disk true counts =
    record counts { disks = next_call counts.disks; disks_opened = next_call counts.disks_opened }
with_disk false counts = record counts { disks = next_call counts.disks }
