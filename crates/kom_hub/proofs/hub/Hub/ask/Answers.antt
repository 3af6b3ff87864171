use Rattle.kom_hub.proofs.hub.Hub.ask.Goals as goal

pub returns-then-ne-clause-goes : goal.returns-then-ne-clause-goes
returns-then-ne-clause-goes g c = λ gave begun serves.
    c.heed.ensures (g.K.Desk.view c.ask_for-answer.new.desk) gave begun (record {
      room = serves.room;
      ended = serves.ended;
      stands = c.ask_for-answer.ensures.stands gave begun (g.G.Gate.view c.args.gate.now) serves.stands;
    })
