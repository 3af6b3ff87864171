use Rattle.kom_serving.proofs.NewPasses.{serves-nothing}
use Rattle.kom_serving.proofs.serving.serve_new.Goals as goal

pub serve_gate-requires-clause-serves : goal.serve_gate-requires-clause-serves
serve_gate-requires-clause-serves g c =
    serves-nothing g.G.Link.Link.view c.args.desk.now.start c.args.desk.now.pass
    (g.G.Gate.view c.args.gate.now).returned
    (g.C.Clock.gave c.args.clock.now) c.requires.unseen c.requires.unused c.requires.fresh.none_back
