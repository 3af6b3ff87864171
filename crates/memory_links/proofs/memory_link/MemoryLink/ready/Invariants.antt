-- At least one byte is ready while some are left, and the count is the most that the cuts so far allow.
use Rattle.std.proofs.Common.{◌<◌, ◌≤◌, ◌+◌, vec_len, length, take, drop}
use Rattle.memory_links.proofs.Cuts.{IsMostOf}
use Rattle.memory_links.proofs.memory_link.MemoryLink.ready.Given as goal

abbrev pub invariant-loop-cut : goal.invariant-loop-cut
invariant-loop-cut l = record {
  fits : l.count ≤ l.room;
  there : l.self.taken + l.count ≤ vec_len l.self.input;
  some : l.self.taken < vec_len l.self.input → 0 < l.count;
  most : IsMostOf l.room (length (drop l.self.taken l.self.input.items)) l.self.plan.most_read
      (take l.cut-index l.self.plan.cuts.items) l.self.taken l.count;
}
