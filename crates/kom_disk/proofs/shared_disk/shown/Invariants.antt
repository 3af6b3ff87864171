use Rattle.std.proofs.Common.{◌≡◌, take}
use Rattle.kom_disk.specs.Shared.{shown_at}
use Rattle.kom_disk.proofs.shared_disk.shown.Given as goal

abbrev pub invariant-loop-change : goal.invariant-loop-change
invariant-loop-change l = l.shown ≡ shown_at l.start (take l.change-index l.changes) l.number
