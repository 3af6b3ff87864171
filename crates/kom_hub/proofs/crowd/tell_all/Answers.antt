use Rattle.kom_hub.proofs.crowd.tell_all.Goals as goal

pub loop-key-init : goal.loop-key-init
loop-key-init g c = λ begun before after gave gate heard half. half

pub loop-key-preserved : goal.loop-key-preserved
loop-key-preserved g c = λ begun before after gave gate heard half.
    c.tell_at.ensures begun before after gave gate heard
    (c.loop-key.invariant begun before after gave gate heard half)

pub returns : goal.returns
returns g c = λ begun before after gave gate heard half.
    c.loop-key.invariant begun before after gave gate heard half
