-- Each row is computed.
use Rattle.std.proofs.Common.{refl}
use Rattle.kom_sweep.proofs.rows.worked_texts.Goals as goal

pub returns : goal.returns
returns c = record {
  nice_77 = refl;
  nice_78 = refl;
  expire_10 = refl;
  expire_11 = refl;
  one_keeps = refl;
  blind_keeps = refl;
  both_let_go = refl;
  unknown_keeps = refl;
  nobody_77 = refl;
  nobody_78 = refl;
  comment_keeps = refl;
  comment_lets_go = refl;
  one_footnote_keeps = refl;
  expires_all_the_same = refl;
  untold_comment = refl;
  comment_to_another = refl;
  mark = refl;
  dont_garb = refl;
  secret_item = refl;
  presentation = refl;
  motd = refl;
  faq = refl;
  other_faq = refl;
  no_faq = refl;
  user_area = refl;
  other_area = refl;
  untold_person = refl;
  untold_conference = refl;
  broken_off = refl;
  untold = refl;
}
