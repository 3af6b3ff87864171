use Rattle.kom_telling.proofs.numbered.tell_text.Goals as goal

pub returns-clause-told : goal.returns-clause-told
returns-clause-told g c = rw c.as_slice.ensures at c.put.ensures.told
