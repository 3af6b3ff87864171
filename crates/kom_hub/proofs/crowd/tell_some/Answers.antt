use Rattle.kom_hub.proofs.crowd.tell_some.Goals as goal

pub loop-place-init : goal.loop-place-init
loop-place-init g c = λ begun before after gave gate heard half. half

pub loop-place-preserved : goal.loop-place-preserved
loop-place-preserved g c = λ begun before after gave gate heard half.
    c.tell_at.ensures begun before after gave gate heard
    (c.loop-place.invariant begun before after gave gate heard half)

pub returns : goal.returns
returns g c = λ begun before after gave gate heard half.
    c.loop-place.invariant begun before after gave gate heard half
