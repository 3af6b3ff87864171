use Rattle.hall_desk.proofs.DeskViews.{act_known, acted_told}
use Rattle.hall_desk.proofs.hall_desk.HallDesk.act.Goals as goal

pub tell-requires : goal.tell-requires
tell-requires g c =
    act_known c.args.self.now c.make_alone-made.new.self c.args.moment c.args.act c.make_alone-made.ensures.turn.0
    c.make_alone-made.result c.args.deed c.answer_of.result c.requires.open c.make_alone-made.ensures.turn.1
    c.requires.deed c.answer_of.ensures

pub returns : goal.returns
returns g c =
    acted_told c.args.self.now c.make_alone-made.new.self c.tell.new.self c.args.moment c.args.act
    c.make_alone-made.ensures.turn.0 c.make_alone-made.result c.args.deed c.answer_of.result
    c.make_alone-made.ensures.turn.1 c.requires.deed c.answer_of.ensures c.make_alone-made.ensures.answers
    c.tell.ensures
