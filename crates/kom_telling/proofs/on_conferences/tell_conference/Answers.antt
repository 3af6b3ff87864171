use Rattle.kom_telling.proofs.Going.{takes-then}
use Rattle.kom_telling.proofs.on_conferences.tell_conference.Goals as goal

pub returns-clause-told : goal.returns-clause-told
returns-clause-told g c =
    takes-then g.S.PartSink.took _ _ _ _ _ c.tell_fields.result (rw c.as_slice.ensures at c.in_ok-put.ensures.told)
    c.tell_fields.ensures.told
