-- Each row is computed.
use Rattle.std.proofs.Common.{refl}
use Rattle.kom_model.specs.Db.{conference_of, conferences_of, person_of, text_of, texts_of, recipients_of}
use Rattle.kom_model.specs.Db.{links_into, marks_on, items_of}
use Rattle.sweep_laws.proofs.laws.worked_due_texts.Goals as goal

pub returns : goal.returns
unfolding conference_of conferences_of person_of text_of texts_of recipients_of links_into marks_on items_of
returns c = record {
  on_77 = refl;
  on_78 = refl;
  just_before_155 = refl;
  on_155 = refl;
  with_footnote = refl;
  expired = refl;
  unexpired = refl;
  not_kept = refl;
  to_another = refl;
  marked = refl;
  held = refl;
  not_held = refl;
  held_conference = refl;
  presentation = refl;
  motd = refl;
  faq = refl;
  no_faq = refl;
  user_area = refl;
  without_person = refl;
}
