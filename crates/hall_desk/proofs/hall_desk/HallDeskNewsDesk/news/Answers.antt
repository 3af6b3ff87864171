use Rattle.hall_desk.proofs.Resting.{rests_looked, looked_outside, on_outside}
use Rattle.hall_desk.proofs.hall_desk.HallDeskNewsDesk.news.Goals as goal

pub invariant_of-self : goal.invariant_of-self
invariant_of-self g c =
    rests_looked g.B.Acts.made g.B.Acts.server c.self.inside.hall.now c.self.inside.pass c.self.inside.answers.items
    c.news.new.pass c.self.invariant c.news.ensures.pass c.news.ensures.free c.news.ensures.knows c.news.ensures.looks

pub returns-clause-looked : goal.returns-clause-looked
returns-clause-looked g c =
    looked_outside g.B.Acts.made g.B.Acts.server c.self.inside.hall.now c.self.inside.pass c.self.inside.answers.items
    c.args.self.now c.self.view_is
    c.news.new.pass c.self.invariant c.news.ensures.looks

pub returns-clause-on : goal.returns-clause-on
returns-clause-on g c =
    on_outside g.B.Acts.made g.B.Acts.server c.self.inside.hall.now c.self.inside.pass c.self.inside.answers.items
    c.args.self.now c.self.view_is
    c.news.new.pass c.self.invariant c.news.ensures.looks
