use Rattle.std.proofs.Common.{true, refl}
use Rattle.kom_exchange.proofs.Spelling.{spelled_part}
use Rattle.kom_exchange.proofs.requests.Requests.send.Goals as goal

pub invariant_of-self-in-Err : goal.invariant_of-self-in-Err
invariant_of-self-in-Err g c =
    spelled_part (g.L.Link.view c.self.inside.link) (g.L.Link.view c.send.new.link) c.self.inside.log.items
    c.self.inside.writer c.self.inside.writer c.bytes.result.now c.self.inside.has_failed true c.self.invariant
    c.if-self.false c.in-Err.ensures c.bytes.ensures refl
