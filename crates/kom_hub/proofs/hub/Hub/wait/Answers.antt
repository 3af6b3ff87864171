use Rattle.kom_hub.proofs.Serving.{left_serves}
use Rattle.kom_hub.proofs.hub.Hub.wait.Goals as goal

pub returns : goal.returns
returns g c = λ desk gave begun serves.
    let listed = c.list_ready-came.ensures desk gave begun (c.wait_once.ensures desk gave begun serves) in
    let left = left_serves g.T.Converse.kept g.T.Converse.talks g.L.Link.view g.met.T.Converse.kept_on
    g.met.T.Converse.talks_on begun c.list_ready-came.new.self desk gave
    (g.G.Gate.view c.list_ready-came.new.gate) (g.G.Gate.view c.was_rung-rang.new.self) c.was_rung-rang.ensures
    listed in
    c.look.ensures (g.G.Gate.view c.was_rung-rang.new.self) desk gave begun
    (record { room = left.room; ended = left.ended; stands = left.stands })
