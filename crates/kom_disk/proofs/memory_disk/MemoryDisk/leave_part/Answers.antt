use Rattle.std.proofs.Common.{◌≤◌, length, ap, arith}
use Rattle.kom_disk.proofs.Torn.{torn_wider, comes_wider}
use Rattle.kom_disk.proofs.memory_disk.MemoryDisk.leave_part.Goals as goal

pub returns-in-Ok-clause-left : goal.returns-in-Ok-clause-left
returns-in-Ok-clause-left c =
    let within : length c.deref-in-Ok.result.now ≤ length c.args.from.now =
    omega (arith, c.in-Ok.ensures, ap length c.deref-in-Ok.ensures.value) in
    torn_wider c.args.at (length c.deref-in-Ok.result.now) (length c.args.from.now) _ _ within c.leave.ensures.left

pub returns-in-Ok-clause-stop : goal.returns-in-Ok-clause-stop
returns-in-Ok-clause-stop c =
    let within : length c.deref-in-Ok.result.now ≤ length c.args.from.now =
    omega (arith, c.in-Ok.ensures, ap length c.deref-in-Ok.ensures.value) in
    comes_wider c.args.at (length c.deref-in-Ok.result.now) (length c.args.from.now) _ _ within c.leave.ensures.stop
