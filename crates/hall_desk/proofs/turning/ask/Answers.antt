use Rattle.hall_desk.proofs.Locking.{turn_asked}
use Rattle.hall_desk.proofs.turning.ask.Goals as goal

pub returns-clause-knows : goal.returns-clause-knows
returns-clause-knows g c =
    (turn_asked g.B.Acts.made g.B.Acts.server g.B.Booked.pass_of g.B.Booked.led g.met.B.Acts.names g.met.B.Acts.leads
    c.args.hall.now c.args.pass.now c.in-Ok.held c.value.result.now c.put.new.pass c.stopped-stopped.result
    c.requires.knows (record {
      taken = c.take.new.pass;
      takes = c.in-Ok.ensures.turn;
      puts = c.put.ensures;
    }) c.value.ensures.value c.stopped-stopped.ensures).0

pub returns-clause-tells : goal.returns-clause-tells
returns-clause-tells g c =
    (turn_asked g.B.Acts.made g.B.Acts.server g.B.Booked.pass_of g.B.Booked.led g.met.B.Acts.names g.met.B.Acts.leads
    c.args.hall.now c.args.pass.now c.in-Ok.held c.value.result.now c.put.new.pass c.stopped-stopped.result
    c.requires.knows (record {
      taken = c.take.new.pass;
      takes = c.in-Ok.ensures.turn;
      puts = c.put.ensures;
    }) c.value.ensures.value c.stopped-stopped.ensures).1
