use Rattle.kom_model.specs.Db.{next_text_of}
use Rattle.kom_telling.proofs.Going.{takes-then}
use Rattle.kom_telling.proofs.sections.tell_next_numbers.Goals as goal

pub returns-clause-told : goal.returns-clause-told
unfolding next_text_of
returns-clause-told g c =
    takes-then g.S.PartSink.took _ _ _ _ _ c.put_raised-2.result
    (rw c.next_conference.ensures.number at c.in_ok-put_raised.ensures.told)
    (rw c.next_text.ensures.number at c.put_raised-2.ensures.told)
