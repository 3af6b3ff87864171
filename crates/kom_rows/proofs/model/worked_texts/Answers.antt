-- Each row is computed.
use Rattle.std.proofs.Common.{refl}
use Rattle.kom_types.specs.Mappings.{mapping_up, mapping_down}
use Rattle.kom_types.specs.AuxItems.{refused_change, inherit}
use Rattle.kom_model.specs.Db.{items_of, next_item_of}
use Rattle.kom_model.specs.Db.{conference_of, person_of, membership_of, memberships_of, conferences_of}
use Rattle.kom_model.specs.Db.{conference_head_of, membership_kind_of, text_of, text_author_of, texts_of}
use Rattle.kom_model.specs.Db.{next_text_of, next_local_of, next_created_of, recipient_of, recipients_of}
use Rattle.kom_model.specs.Db.{link_of, links_from, links_into, links_of, locals_of, created_by, mark_of, marks_of}
use Rattle.kom_model.specs.Db.{marks_on}
use Rattle.kom_model.specs.Effects.{fits, after_effect}
use Rattle.kom_model.specs.Initial.{initial}
use Rattle.kom_model.specs.Rights.{supervises, sees, reads_conference, reads, may_submit}
use Rattle.kom_rows.proofs.model.worked_texts.Goals as goal

pub returns : goal.returns
unfolding items_of next_item_of refused_change inherit
    mapping_up mapping_down conference_of person_of membership_of memberships_of conferences_of
    conference_head_of membership_kind_of text_of text_author_of texts_of next_text_of next_local_of
    next_created_of recipient_of recipients_of link_of links_from links_into links_of locals_of created_by mark_of
    marks_of marks_on fits after_effect initial supervises sees reads_conference reads may_submit
returns c = record {
  all_are_made = refl;
  next_text = refl;
  next_locals = refl;
  next_created = refl;
  locals = refl;
  locals_of_few = refl;
  created = refl;
  created_by_nobody = refl;
  numbers_used = refl;
  locals_used = refl;
  created_used = refl;
  created_gone = refl;
  text_number_used = refl;
  last_text_number = refl;
  local_used = refl;
  number_left_out = refl;
  local_not_given_again = refl;
  local_left_out = refl;
  recipient_twice = refl;
  recipient_of_another_tag = refl;
  recipient_of_nothing = refl;
  linked_twice = refl;
  linked_otherwise = refl;
  linked_to_nothing = refl;
  gone_with_a_recipient = refl;
  gone_with_a_link = refl;
  gone_with_a_mark = refl;
  gone_already = refl;
  nothing_is_removed = refl;
  mark_of_nothing = refl;
  numbered_twice = refl;
  created_number_used = refl;
  recipient_past_the_limit = refl;
  comment_past_the_limit = refl;
  commented_past_the_limit = refl;
  footnote_past_the_limit = refl;
  mark_past_the_limit = refl;
  marked_past_the_limit = refl;
  created_left_out = refl;
  readers = refl;
  readers_of_an_open_text = refl;
  readers_of_no_author = refl;
  readers_of_nothing = refl;
  read_by_its_author = refl;
  submitters = refl;
  shown_to_few = refl;
  shown_to_its_author = refl;
  shown_to_its_sender = refl;
  shown_to_all = refl;
  text_made = refl;
  effects_fit = refl;
  nothing_counted = refl;
  text_without_author = refl;
  nobody_writes = refl;
  no_recipient = refl;
  missing_recipient = refl;
  recipient_named_twice = refl;
  may_not_submit = refl;
  takes_no_anonymous = refl;
  named_twice_is_first = refl;
  submitting_is_first = refl;
  no_parent = refl;
  hidden_parent = refl;
  parent_named_twice = refl;
  footnote_to_nothing = refl;
  footnote_to_another = refl;
  footnote_by_strength = refl;
  footnote_without_author = refl;
  footnote_named_twice = refl;
  comment_and_footnote = refl;
  other_tags = refl;
  last_number = refl;
  past_the_last_number = refl;
  past_the_last_local = refl;
  past_the_last_created = refl;
  limits = refl;
  recipients_at_the_limit = refl;
  comments_at_the_limit = refl;
  commented_at_the_limit = refl;
  footnotes_at_the_limit = refl;
  parent_at_the_limit = refl;
  footnoted_at_the_limit = refl;
  marks_at_the_limit = refl;
  marked_at_the_limit = refl;
  shown_stat = refl;
  text_cut = refl;
  text_cut_to_one = refl;
  end_before_start = refl;
  start_at_the_end = refl;
  start_past_the_end = refl;
  text_hidden = refl;
  no_text = refl;
  told_to_nobody = refl;
  text_deleted = refl;
  deletion_fits = refl;
  deleted_by_another = refl;
  recipient_added = refl;
  another_kind = refl;
  recipient_there = refl;
  hidden_recipient_there = refl;
  recipient_refused = refl;
  recipient_missing = refl;
  recipient_taken = refl;
  recipient_of_a_supervisor = refl;
  recipient_of_a_sender = refl;
  recipient_not_taken = refl;
  recipient_not_shown = refl;
  recipient_not_there = refl;
  recipient_zero = refl;
  comment_added = refl;
  comment_to_itself = refl;
  hidden_comments_itself = refl;
  commented_already = refl;
  comment_taken = refl;
  no_comment = refl;
  comment_of_another = refl;
  footnote_added = refl;
  footnote_of_two_authors = refl;
  footnote_to_itself = refl;
  footnote_already = refl;
  footnote_taken = refl;
  no_footnote = refl;
  footnote_of_another = refl;
  mark_set = refl;
  mark_of_a_hidden_text = refl;
  marks_told = refl;
  marked_again = refl;
  mark_taken = refl;
  no_mark = refl;
  mapped = refl;
  mapped_with_a_gap = refl;
  mapped_past_a_gap = refl;
  mapped_in_part = refl;
  mapped_past_the_end = refl;
  none_mapped = refl;
  mapping_refused = refl;
  mapped_downwards = refl;
  mapped_below = refl;
  none_mapped_downwards = refl;
  downwards_refused = refl;
  created_mapped = refl;
  created_that_is_read = refl;
  created_refused = refl;
  next_read = refl;
  none_read_after = refl;
  previous_read = refl;
  none_read_before = refl;
  first_unused = refl;
}
