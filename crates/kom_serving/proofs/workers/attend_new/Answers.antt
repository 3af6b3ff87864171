use Rattle.kom_serving.proofs.NewPasses.{serves-nothing}
use Rattle.kom_serving.proofs.workers.attend_new.Goals as goal

pub attend-requires-clause-serves : goal.attend-requires-clause-serves
attend-requires-clause-serves g c =
    serves-nothing g.G.Link.Link.view c.args.desk.now.start c.args.desk.now.pass
    (g.G.Gate.view c.args.gate.now).returned
    (g.C.Clock.gave c.args.clock.now) c.requires.unseen c.requires.unused c.requires.fresh.none_back
