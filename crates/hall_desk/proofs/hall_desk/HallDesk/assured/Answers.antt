use Rattle.hall_desk.proofs.Resting.{stands_outside}
use Rattle.hall_desk.proofs.hall_desk.HallDesk.assured.Goals as goal

pub returns : goal.returns
returns g c = record {
  stands =
      stands_outside g.B.Acts.made g.B.Acts.server c.self.inside.hall.now c.self.inside.pass c.self.inside.answers.items
      c.args.self.now c.self.view_is c.self.invariant;
}
