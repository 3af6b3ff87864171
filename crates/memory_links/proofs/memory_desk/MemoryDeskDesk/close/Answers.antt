use Rattle.std.proofs.Common.{arith}
use Rattle.memory_links.proofs.KeptDesks.{room_to_close, stands_closed}
use Rattle.memory_links.proofs.memory_desk.MemoryDeskDesk.close.Goals as goal

pub push_reserved-requires : goal.push_reserved-requires
push_reserved-requires c = omega (arith, room_to_close c.args.session c.args.self.now.stands c.requires)

pub invariant_of-self-2 : goal.invariant_of-self-2
invariant_of-self-2 c = record {
  stands = stands_closed c.record_of.result c.push_reserved.new.self.items _ c.args.self.now.stands c.record_of.ensures
      c.push_reserved.ensures.items c.requires
      (omega (arith, c.push_reserved.ensures.len, c.push_reserved.ensures.capacity));
}
