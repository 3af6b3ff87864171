use Rattle.hall_desk.proofs.Resting.{open_inside, user_inside, own_inside, turn_outside, rests_ended}
use Rattle.hall_desk.proofs.hall_desk.HallDesk.make_alone.Goals as goal

pub turn-requires-clause-own : goal.turn-requires-clause-own
turn-requires-clause-own g c =
    own_inside g.B.Acts.made g.B.Acts.server c.self.inside.hall.now c.self.inside.pass c.self.inside.answers.items
    c.args.self.now c.self.view_is
    c.args.moment c.args.act c.entry-entry.result c.entry-entry.ensures

pub turn-requires-clause-open : goal.turn-requires-clause-open
turn-requires-clause-open g c =
    open_inside g.B.Acts.made g.B.Acts.server c.self.inside.hall.now c.self.inside.pass c.self.inside.answers.items
    c.args.self.now c.self.view_is
    c.args.moment c.args.act c.entry-entry.result c.entry-entry.ensures c.requires.open

pub turn-requires-clause-user : goal.turn-requires-clause-user
turn-requires-clause-user g c =
    user_inside g.B.Acts.made g.B.Acts.server c.self.inside.hall.now c.self.inside.pass c.self.inside.answers.items
    c.args.self.now c.self.view_is
    c.args.moment c.args.act c.entry-entry.result c.entry-entry.ensures c.requires.user

pub invariant_of-self : goal.invariant_of-self
invariant_of-self g c =
    rests_ended g.B.Acts.made g.B.Acts.server c.self.inside.hall.now c.self.inside.pass c.self.inside.answers.items
    c.turn.new.pass c.entry-entry.result _ c.turn.result
    (own_inside g.B.Acts.made g.B.Acts.server c.self.inside.hall.now c.self.inside.pass c.self.inside.answers.items
    c.args.self.now c.self.view_is
    c.args.moment c.args.act c.entry-entry.result c.entry-entry.ensures)
    c.self.invariant c.turn.ensures.pass c.turn.ensures.free c.turn.ensures.knows c.turn.ensures.ends

pub returns-clause-turn : goal.returns-clause-turn
returns-clause-turn g c = (
  _,
  turn_outside g.B.Acts.made g.B.Acts.server c.self.inside.hall.now c.self.inside.pass c.self.inside.answers.items
      c.args.self.now c.self.view_is
      c.turn.new.pass c.args.moment c.args.act c.entry-entry.result _ c.turn.result c.entry-entry.ensures
      c.self.invariant c.turn.ensures.ends,
)
