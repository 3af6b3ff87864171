use Rattle.hall_desk.proofs.Resting.{tells_outside, stands_outside, rests_asked}
use Rattle.hall_desk.proofs.hall_desk.HallDesk.ask_stopped.Goals as goal

pub invariant_of-self : goal.invariant_of-self
invariant_of-self g c =
    rests_asked g.B.Acts.made g.B.Acts.server c.self.inside.hall.now c.self.inside.pass c.self.inside.answers.items
    c.ask.new.pass c.ask.result c.self.invariant c.ask.ensures.pass c.ask.ensures.free c.ask.ensures.knows
    c.ask.ensures.tells

pub returns-clause-tells : goal.returns-clause-tells
returns-clause-tells g c =
    tells_outside g.B.Acts.made g.B.Acts.server c.self.inside.hall.now c.self.inside.pass c.self.inside.answers.items
    c.args.self.now c.self.view_is c.ask.new.pass c.ask.result
    c.ask.ensures.tells

pub returns-clause-stood : goal.returns-clause-stood
returns-clause-stood g c =
    stands_outside g.B.Acts.made g.B.Acts.server c.self.inside.hall.now c.self.inside.pass c.self.inside.answers.items
    c.args.self.now c.self.view_is c.self.invariant
