-- Each row is computed.
use Rattle.std.proofs.Common.{refl}
use Rattle.kom_types.specs.AuxItems.{refused_change, inherit}
use Rattle.kom_types.specs.Names.{is_name}
use Rattle.kom_model.specs.Db.{conference_of, person_of, membership_of, memberships_of, memberships_at}
use Rattle.kom_model.specs.Db.{members_of, conferences_of, next_conference_of, conference_head_of}
use Rattle.kom_model.specs.Db.{membership_kind_of, text_of, text_author_of, next_text_of, next_local_of}
use Rattle.kom_model.specs.Db.{next_created_of, recipient_of, recipients_of, link_of, links_from}
use Rattle.kom_model.specs.Db.{links_into, links_of, locals_of, first_local_of, mark_of, marks_of}
use Rattle.kom_model.specs.Db.{marks_on, items_of, next_item_of}
use Rattle.kom_model.specs.Effects.{fits, after_effect}
use Rattle.kom_model.specs.Initial.{initial}
use Rattle.kom_model.specs.Rights.{supervises, sees, reads_conference, reads, may_submit}
use Rattle.kom_model.specs.Shown.{shows_membership}
use Rattle.kom_rows.proofs.model.worked_items.Goals as goal

pub returns-clause-items : goal.returns-clause-items
unfolding refused_change inherit is_name conference_of person_of membership_of memberships_of
    memberships_at members_of conferences_of next_conference_of conference_head_of
    membership_kind_of text_of text_author_of next_text_of next_local_of next_created_of
    recipient_of recipients_of link_of links_from links_into links_of locals_of first_local_of
    mark_of marks_of marks_on items_of next_item_of fits after_effect initial supervises sees
    reads_conference reads may_submit shows_membership
returns-clause-items c = record {
  all_are_made = refl;
  items_of_texts = refl;
  items_of_conferences = refl;
  next_of_texts = refl;
  next_of_conferences = refl;
  next_after_some_left_out = refl;
  next_of_the_other = refl;
  next_after_all_went = refl;
  next_of_a_changed_conference = refl;
  next_of_a_changed_text = refl;
  next_without_the_author = refl;
  item_went = refl;
  item_of_the_text_went = refl;
  item_of_the_conference_went = refl;
  number_used = refl;
  number_of_a_conference_used = refl;
  item_of_nothing = refl;
  item_of_no_conference = refl;
  tags_of_texts = refl;
  tags_of_conferences = refl;
  tags_of_letterboxes = refl;
  tags_unknown = refl;
  tags_unknown_of_conferences = refl;
  items_fit_to_the_limit = refl;
  items_of_another_fit = refl;
  items_of_a_conference_fit = refl;
  content_fits = refl;
  others_of_a_kind_fit = refl;
  item_fits_to_go = refl;
  item_of_the_other_fits_to_go = refl;
  item_of_another_fits_to_go = refl;
  item_fits_to_go_once = refl;
  text_fits_to_go = refl;
  conference_fits_to_go = refl;
  told_to_the_author = refl;
  told_to_others = refl;
  told_to_the_creator = refl;
  told_to_the_supervisor = refl;
  told_to_supervising_members = refl;
  told_to_the_invited = refl;
  told_without_an_author = refl;
  owned_without_an_author = refl;
  told_of_a_conference = refl;
  told_of_a_letterbox = refl;
  told_of_a_letterbox_of_another = refl;
  none_told = refl;
  text_refused = refl;
  deletion_of_nothing = refl;
  deletion_of_another = refl;
  deletion_of_the_hidden = refl;
  deletion_of_a_hidden_one = refl;
  deletion_of_what_stays = refl;
  deletion_of_anothers = refl;
  deletion_by_its_maker = refl;
  deletion_in_turn = refl;
  deletion_first = refl;
  deleted_by_the_owner = refl;
  deleted_by_the_creator = refl;
  deleted_by_strength = refl;
  deleted_by_supervisors = refl;
  deleted_without_an_author = refl;
  addition_too_long = refl;
  addition_of_no_tag = refl;
  addition_of_tags = refl;
  addition_of_flags = refl;
  addition_that_stands = refl;
  addition_given_twice = refl;
  addition_of_many = refl;
  addition_read_by_another = refl;
  addition_past_the_limit = refl;
  addition_past_the_hidden = refl;
  addition_after_a_deletion = refl;
  addition_by_a_reader = refl;
  addition_for_readers = refl;
  addition_by_others = refl;
  addition_without_an_author = refl;
  addition_looked_at_first = refl;
  addition_in_turn = refl;
  addition_without_a_number = refl;
  addition_with_the_last_number = refl;
  addition_after_the_last_number = refl;
  text_changed = refl;
  text_changed_by_others = refl;
  text_not_changed = refl;
  changes_fit = refl;
  conference_refused = refl;
  conference_deletion_refused = refl;
  conference_deletion_of_the_hidden = refl;
  conference_deleted_of = refl;
  conference_tags = refl;
  conference_tags_refused = refl;
  conference_tags_of_many = refl;
  conference_tags_by_others = refl;
  conference_items_by_others = refl;
  conference_additions_refused = refl;
  conference_additions_without_a_number = refl;
  conference_changed = refl;
  conference_changed_by_strength = refl;
  conference_changed_after_some_left_out = refl;
  letterbox_tags = refl;
  letterbox_tags_refused = refl;
  letterbox_tags_by_others = refl;
  letterbox_tags_of_many = refl;
  letterbox_changed = refl;
  letterbox_changed_by_others = refl;
  letterbox_of_another = refl;
}

pub returns-clause-new_items : goal.returns-clause-new_items
unfolding refused_change inherit is_name conference_of person_of membership_of memberships_of
    memberships_at members_of conferences_of next_conference_of conference_head_of
    membership_kind_of text_of text_author_of next_text_of next_local_of next_created_of
    recipient_of recipients_of link_of links_from links_into links_of locals_of first_local_of
    mark_of marks_of marks_on items_of next_item_of fits after_effect initial supervises sees
    reads_conference reads may_submit shows_membership
returns-clause-new_items c = record {
  text_made = refl;
  anonymous_text_made = refl;
  items_of_a_text_refused = refl;
  items_of_an_anonymous_text_refused = refl;
  items_of_a_text_last = refl;
  inherited_by_a_comment = refl;
  inherited_after_the_given = refl;
  inherited_in_turn = refl;
  inherited_beside_the_given = refl;
  inherited_to_the_limit = refl;
  none_inherited = refl;
  inherited_without_an_author = refl;
  comment_inherits_nothing = refl;
  comment_fits = refl;
  inherited_of_a_row = refl;
  conference_made = refl;
  items_of_a_conference_refused = refl;
  items_of_a_conference_last = refl;
  person_made = refl;
  person_made_by_another = refl;
  items_of_a_person_refused = refl;
  items_of_a_person_last = refl;
  made_fit = refl;
  text_deleted = refl;
  text_with_an_item_deleted = refl;
  conference_deleted = refl;
  letterbox_deleted = refl;
  deletions_fit = refl;
  items_are_gone = refl;
  items_of_others_stay = refl;
  items_of_the_letterbox_stay = refl;
  items_of_the_person_stay = refl;
}
