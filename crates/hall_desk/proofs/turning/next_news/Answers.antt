use Rattle.hall_desk.proofs.Locking.{turn_looked}
use Rattle.hall_desk.proofs.turning.next_news.Goals as goal

pub returns-clause-knows : goal.returns-clause-knows
returns-clause-knows g c =
    (turn_looked g.B.Acts.made g.B.Acts.server g.B.Booked.pass_of g.B.Booked.led g.met.B.Acts.names g.met.B.Acts.leads
    c.args.hall.now c.args.pass.now c.in-Ok.held c.put.new.pass
    c.requires.knows (record {
      taken = c.take.new.pass;
      takes = c.in-Ok.ensures.turn;
      puts = c.put.ensures;
    })).0

pub returns-clause-looks : goal.returns-clause-looks
returns-clause-looks g c =
    (turn_looked g.B.Acts.made g.B.Acts.server g.B.Booked.pass_of g.B.Booked.led g.met.B.Acts.names g.met.B.Acts.leads
    c.args.hall.now c.args.pass.now c.in-Ok.held c.put.new.pass
    c.requires.knows (record {
      taken = c.take.new.pass;
      takes = c.in-Ok.ensures.turn;
      puts = c.put.ensures;
    })).1
