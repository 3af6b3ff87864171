use Rattle.kom_hub.proofs.rounds.list_silent.Goals as goal

pub loop-key-init : goal.loop-key-init
loop-key-init g c = λ desk gave begun gate stands. stands

pub loop-key-preserved : goal.loop-key-preserved
loop-key-preserved g c = λ desk gave begun gate stands.
    c.list_silent_at.ensures desk gave begun gate (c.loop-key.invariant desk gave begun gate stands)

pub returns : goal.returns
returns g c = c.loop-key.invariant
