use Rattle.std.proofs.Common.{[], ◌∷◌}
use Rattle.kom_exchange.proofs.Going.{grows_none, goes_from}
use Rattle.kom_exchange.proofs.Spelling.{spelled_more}
use Rattle.kom_exchange.proofs.requests.Requests.ask.Goals as goal

pub invariant_of-self : goal.invariant_of-self
invariant_of-self g c =
    spelled_more (g.L.Link.view c.self.inside.link) c.self.inside.log.items c.and-self-inside.result.items
    c.self.inside.writer c.put_request.new.writer c.self.inside.has_failed
    (c.self.inside.next, c.args.request.now) c.self.invariant c.in-Ok.ensures c.and-self-inside.ensures

pub returns-in-Ok-clause-goes : goal.returns-in-Ok-clause-goes
returns-in-Ok-clause-goes g c = λ plain. goes_from _ c.args.self.now _ c.self.view_is (record {
  heard = grows_none (g.L.Link.view c.self.inside.link).taken;
  sent = grows_none (g.L.Link.view c.self.inside.link).put;
  more = (c.self.inside.next, c.args.request.now) ∷ [];
  plain = (plain, tt);
  asked = c.and-self-inside.ensures;
})
