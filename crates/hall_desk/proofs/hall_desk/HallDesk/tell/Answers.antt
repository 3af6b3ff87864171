use Rattle.hall_desk.proofs.Resting.{log_outside, rests_logged}
use Rattle.hall_desk.proofs.hall_desk.HallDesk.tell.Goals as goal

pub invariant_of-self : goal.invariant_of-self
invariant_of-self g c =
    rests_logged g.B.Acts.made g.B.Acts.server c.self.inside.hall.now c.self.inside.pass c.self.inside.answers.items
    c.args.self.now c.self.view_is
    c.and-self-inside.result.items (c.args.deed, c.args.answer) c.and-self-inside.ensures c.requires c.self.invariant

pub returns : goal.returns
returns g c =
    log_outside g.B.Acts.made g.B.Acts.server c.self.inside.hall.now c.self.inside.pass c.self.inside.answers.items
    c.args.self.now c.self.view_is
    c.and-self-inside.result.items (c.args.deed, c.args.answer) c.and-self-inside.ensures
