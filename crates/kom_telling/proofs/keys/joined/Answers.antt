use Rattle.kom_telling.proofs.keys.joined.Goals as goal

pub returns : goal.returns
returns c = rw (c.deref.ensures.value, c.in_ok-placed.ensures) at c.ranked.ensures
