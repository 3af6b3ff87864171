-- What was typed so far was taken.
use Rattle.std.proofs.Common.{◌≤◌, ℕ, List, [], Ok, Result}
use Rattle.kom_client.specs.declared.talk_end.TalkEnd.{TalkEnd}
use Rattle.kom_client.specs.Client.{HasCarried}
use Rattle.kom_client.specs.Talking.{Types}
use Rattle.kom_client.specs.Talkers.{typing_of}
use Rattle.kom_client.proofs.talking.take_keys.Given as goal

abbrev pub invariant-loop : goal.invariant-loop
invariant-loop g l =
    let one : Result (Unit {0}) TalkEnd = Ok tt in
    record {
      can : (goal.iterator-loop g).can_next l.iterator';
      finite : (goal.iterator-loop g).is_finite l.iterator';
      faults : (g.K.Link.view l.fn.keys).faults ≤ (g.K.Link.view l.keys).faults;
      typed : (typed : List ℕ) × HasCarried (g.K.Link.view l.keys) typed []
          × Types one typed
          (typing_of l.fn.talker l.fn.line.items (g.L.Link.view l.fn.link) (g.S.Sink.view l.fn.out))
          (typing_of l.talker l.line.items (g.L.Link.view l.link) (g.S.Sink.view l.out));
    }
