use Rattle.hall_desk.proofs.Resting.{rests_new}
use Rattle.hall_desk.proofs.hall_desk.HallDesk.new.Goals as goal

pub invariant_of-result : goal.invariant_of-result
invariant_of-result g c =
    rests_new g.B.Acts.made g.B.Acts.server c.args.hall.now c.args.pass c.new.result.items c.requires.pass
    c.requires.resting c.requires.unseen c.requires.unused c.requires.opening c.new.ensures
