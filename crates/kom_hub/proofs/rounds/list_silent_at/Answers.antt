use Rattle.kom_hub.proofs.rounds.list_silent_at.Goals as goal

pub returns : goal.returns
returns g c = λ desk gave begun gate stands.
    c.list_at.ensures desk gave begun gate (c.ready_at.ensures desk gave begun gate stands)
