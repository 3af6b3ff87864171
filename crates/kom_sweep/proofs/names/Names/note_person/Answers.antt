use Rattle.kom_sweep.proofs.names.Names.note_person.Goals as goal

pub returns : goal.returns
returns c = c.in_ok-note_text.ensures
