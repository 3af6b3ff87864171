-- What was put and what is left are all the bytes.
use Rattle.kom_exchange.proofs.Links.{PutsBut}
use Rattle.kom_exchange.proofs.requests.send.Given as goal

abbrev pub invariant-loop : goal.invariant-loop
invariant-loop g l = record {
  can : (goal.iterator-loop g).can_next l.iterator';
  finite : (goal.iterator-loop g).is_finite l.iterator';
  puts : PutsBut (g.L.Link.view l.fn.link) l.rest l.fn.bytes (g.L.Link.view l.link);
}
