-- The reply is still awaited.
use Rattle.std.proofs.Common.{◌≡◌}
use Rattle.kom_client.specs.Talking.{Passes, await_reply}
use Rattle.kom_client.specs.Talkers.{turn_of, world}
use Rattle.kom_client.proofs.talker.Talker.await_reply.Given as goal

abbrev pub invariant-loop : goal.invariant-loop
invariant-loop g l = record {
  can : (goal.iterator-loop g).can_next l.iterator';
  finite : (goal.iterator-loop g).is_finite l.iterator';
  turn : turn_of l.self ≡ turn_of l.fn.self;
  passes : Passes (await_reply l.fn.self.reference) (await_reply l.fn.self.reference)
      (world l.fn.self (g.L.Link.view l.fn.link) (g.S.Sink.view l.fn.out))
      (world l.self (g.L.Link.view l.link) (g.S.Sink.view l.out));
}
