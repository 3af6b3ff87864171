-- Each row is computed.
use Rattle.std.proofs.Common.{refl}
use Rattle.kom_types.specs.AuxItems.{refused_change, inherit}
use Rattle.kom_model.specs.Db.{items_of, next_item_of}
use Rattle.kom_model.specs.Db.{conference_of, person_of, membership_of, memberships_of, memberships_at, members_of}
use Rattle.kom_model.specs.Db.{conferences_of, conference_head_of, membership_kind_of, read_of}
use Rattle.kom_model.specs.Db.{text_of, text_author_of, next_local_of, next_created_of}
use Rattle.kom_model.specs.Db.{recipient_of, recipients_of, link_of, links_from, links_into, locals_of}
use Rattle.kom_model.specs.Db.{first_local_of, created_by, first_created_of, mark_of, marks_of, marks_on}
use Rattle.kom_model.specs.Effects.{fits, after_effect}
use Rattle.kom_model.specs.Rights.{supervises, sees, reads_conference, reads}
use Rattle.kom_model.specs.Shown.{shows_membership}
use Rattle.kom_rows.proofs.model.worked_shown.Goals as goal

pub returns : goal.returns
unfolding items_of next_item_of refused_change inherit
    conference_of person_of membership_of memberships_of memberships_at members_of conferences_of
    conference_head_of membership_kind_of read_of text_of text_author_of
    next_local_of next_created_of recipient_of recipients_of link_of links_from links_into locals_of
    first_local_of created_by first_created_of mark_of marks_of marks_on fits after_effect supervises sees
    reads_conference reads shows_membership
returns c = record {
  all_are_made = refl;
  presentation_set = refl;
  motd_set = refl;
  supervisor_set = refl;
  submitters_set = refl;
  super_conference_set = refl;
  nice_set = refl;
  expire_set = refl;
  keep_commented_set = refl;
  set_to_none = refl;
  set_alike = refl;
  texts_refused = refl;
  conferences_refused = refl;
  numbers_refused = refl;
  type_set = refl;
  type_refused = refl;
  letterbox_type_refused = refl;
  user_area_set = refl;
  user_area_refused = refl;
  fields_set = refl;
  fields_of_another = refl;
  fields_fit = refl;
  fields_of_nothing = refl;
  values_fit = refl;
  types_of_a_letterbox = refl;
  conference_deleted = refl;
  conference_without_members_deleted = refl;
  bare_conference_deleted = refl;
  person_deleted_by_itself = refl;
  person_deleted_by_strength = refl;
  person_deleted_by_its_supervisor = refl;
  person_without_marks_deleted = refl;
  deletion_refused = refl;
  deleted_by_a_member_of_the_letterbox = refl;
  strong_by_privileges = refl;
  deletions_fit = refl;
  conference_is_gone = refl;
  members_are_gone = refl;
  reads_are_gone = refl;
  places_close_up = refl;
  places_follow = refl;
  others_stay = refl;
  texts_stay = refl;
  supervisor_stays = refl;
  supervises_no_more = refl;
  number_and_name_after = refl;
  name_before = refl;
  person_is_gone = refl;
  letterbox_is_gone = refl;
  marks_are_gone = refl;
  marks_of_others_stay = refl;
  memberships_are_gone = refl;
  left_by_the_person = refl;
  left_the_letterbox = refl;
  recipients_are_gone = refl;
  persons_stay = refl;
  texts_of_the_person_stay = refl;
  created_are_gone = refl;
  next_created_is_gone = refl;
  created_of_others_stay = refl;
  author_stays = refl;
  conference_fits_to_go = refl;
  conference_fits_at_last = refl;
  person_fits_to_go = refl;
  conference_told = refl;
  members_counted = refl;
  members_counted_to_supervisor = refl;
  members_counted_to_strength = refl;
  fields_told = refl;
  hidden_told = refl;
  texts_counted = refl;
  texts_counted_of_others = refl;
  members_counted_of_others = refl;
  conference_not_told = refl;
  person_told = refl;
  person_told_to_others = refl;
  person_told_to_supervisor = refl;
  memberships_counted = refl;
  memberships_counted_to_supervisor = refl;
  memberships_counted_to_strength = refl;
  memberships_counted_of_others = refl;
  marks_counted = refl;
  created_counted = refl;
  none_created = refl;
  created_counted_of_others = refl;
  person_not_told = refl;
  text_told = refl;
  text_told_to_strength = refl;
  text_told_to_a_reader = refl;
  text_told_to_a_recipient = refl;
  text_told_to_a_supervisor = refl;
  text_told_to_its_sender = refl;
  text_told_in_the_open = refl;
  author_not_told = refl;
  sender_not_told = refl;
  text_without_author_told = refl;
  text_with_marks_told = refl;
  text_without_recipients_told = refl;
  text_not_told = refl;
  counts_stop = refl;
  where_it_is = refl;
  where_others_are = refl;
}
