use Rattle.std.proofs.Common.{◌+◌, ◌<◌, ◌≤◌, vec_len, vec_capacity, rules, arith}
use Rattle.memory_links.proofs.KeptDesks.{stands_more, open_known}
use Rattle.memory_links.proofs.memory_desk.MemoryDesk.act.Goals as goal

pub invariant_of-self-2 : goal.invariant_of-self-2
invariant_of-self-2 c =
    let mid = c.reserve.new.self in
    let room : vec_len c.reserve.new.self.records + c.reserve.new.self.sessions + 2
    < vec_capacity c.reserve.new.self.records = search rules in
    let known : c.args.session ≤ c.args.self.now.sessions =
    open_known c.args.session c.args.self.now.stands c.requires.open in
    record {
      stands = stands_more c.record_of.result c.push_reserved.new.self.items _ _ mid.stands c.record_of.ensures
          c.push_reserved.ensures.items (omega arith) (omega (arith, known, c.reserve.ensures.sessions))
          (omega (arith, c.push_reserved.ensures.len, c.push_reserved.ensures.capacity));
    }
