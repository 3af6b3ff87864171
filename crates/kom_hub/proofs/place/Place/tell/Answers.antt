use Rattle.std.proofs.Common.{ap}
use Rattle.kom_hub.proofs.place.Place.tell.Goals as goal

pub returns : goal.returns
returns c =
    ap (λ items. record c.args.self.now { answers = record c.args.self.now.answers { items = items } })
    c.and-self.ensures
