use Rattle.kom_client.specs.Seen.{request_seen}
use Rattle.kom_client.specs.Talkers.{turn_of, world}
use Rattle.kom_client.proofs.Turns.{line_asks, line_asks_not}
use Rattle.kom_client.proofs.talker.Talker.take_line.Goals as goal

pub returns-in-Some : goal.returns-in-Some
returns-in-Some g c =
    line_asks c.ask.result (turn_of c.args.self.now) (turn_of c.ask.new.self) c.args.text.now
    (request_seen c.in-Some.request)
    (world c.args.self.now (g.L.Link.view c.args.link.now) (g.S.Sink.view c.args.out.now))
    (world c.ask.new.self (g.L.Link.view c.ask.new.link) (g.S.Sink.view c.ask.new.out))
    c.in-Some.ensures c.ask.ensures.turn c.ask.ensures.asks

pub returns-in-None : goal.returns-in-None
returns-in-None g c =
    let at = c.args.self.now in
    line_asks_not c.show.result (turn_of at) c.args.text.now
    (world at (g.L.Link.view c.args.link.now) (g.S.Sink.view c.args.out.now))
    (world at (g.L.Link.view c.args.link.now) (g.S.Sink.view c.show.new.out))
    c.in-None.ensures
    (c.show.ensures at.hearing.splitter at.hearing.fault (g.L.Link.view c.args.link.now))
