use Rattle.kom_hub.proofs.Serving.{left_serves}
use Rattle.kom_hub.proofs.hub.Hub.list_ready.Goals as goal

pub returns-in_default : goal.returns-in_default
returns-in_default g c = λ desk gave begun serves.
    left_serves g.T.Converse.kept g.T.Converse.talks g.L.Link.view g.met.T.Converse.kept_on
    g.met.T.Converse.talks_on begun c.loop-count.self desk gave
    (g.G.Gate.view c.loop-count.gate) (g.G.Gate.view c.next_ready.new.self) c.next_ready.ensures
    (c.loop-count.invariant desk gave begun serves)

pub loop-count-preserved : goal.loop-count-preserved
loop-count-preserved g c = λ desk gave begun serves.
    let left = left_serves g.T.Converse.kept g.T.Converse.talks g.L.Link.view g.met.T.Converse.kept_on
    g.met.T.Converse.talks_on begun c.loop-count.self desk gave
    (g.G.Gate.view c.loop-count.gate) (g.G.Gate.view c.next_ready.new.self) c.next_ready.ensures
    (c.loop-count.invariant desk gave begun serves) in
    record {
      room = left.room;
      ended = left.ended;
      stands = c.list_at.ensures desk gave begun (g.G.Gate.view c.next_ready.new.self)
          (c.ready_at.ensures desk gave begun (g.G.Gate.view c.next_ready.new.self) left.stands);
    }
