use Rattle.std.proofs.Common.{Some, None}
use Rattle.kom_state_lock.proofs.hall.Hall.log.Given as goal

-- the step is told the entry and the value
abbrev pub ghosts-write_entry : goal.ghosts-write_entry
ghosts-write_entry g a = record { opening = None; entry = Some a.entry.now; left = Some a.value.now }
