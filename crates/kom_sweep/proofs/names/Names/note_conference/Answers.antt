use Rattle.kom_sweep.proofs.Learning.{learns_conference}
use Rattle.kom_sweep.proofs.names.Names.note_conference.Goals as goal

pub returns : goal.returns
returns c =
    learns_conference c.args.number c.args.conference.now c.of.result c.as_slice.result.now c.args.self.now
    c.note_days.new.self
    c.note_text.new.self c.note_text-2.new.self c.note_faqs.new.self c.of.ensures c.as_slice.ensures
    c.in_ok-note_days.ensures c.in_ok-note_text.ensures c.in_ok-note_text-2.ensures c.in_ok-note_faqs.ensures
