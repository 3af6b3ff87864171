-- Each row is computed.
use Rattle.std.proofs.Common.{refl}
use Rattle.read_ranges.specs.Numbers.{numbers_from}
use Rattle.kom_types.specs.AuxItems.{refused_change, inherit}
use Rattle.kom_model.specs.Db.{items_of, next_item_of}
use Rattle.kom_model.specs.Db.{conference_of, person_of, membership_of, memberships_of, members_of, conferences_of}
use Rattle.kom_model.specs.Db.{person_flags_of}
use Rattle.kom_model.specs.Db.{conference_head_of, membership_kind_of, read_of, text_of, next_text_of}
use Rattle.kom_model.specs.Db.{next_local_of, recipient_of, recipients_of, locals_of, first_local_of}
use Rattle.kom_model.specs.Effects.{fits, after_effect}
use Rattle.kom_model.specs.Rights.{supervises, sees, reads_conference}
use Rattle.kom_model.specs.Shown.{shows_membership}
use Rattle.kom_rows.proofs.model.worked_memberships.Goals as goal

pub returns-clause-memberships : goal.returns-clause-memberships
unfolding items_of next_item_of refused_change inherit
    numbers_from conference_of person_of membership_of memberships_of members_of conferences_of person_flags_of
    conference_head_of membership_kind_of read_of text_of next_text_of next_local_of recipient_of recipients_of
    locals_of first_local_of fits after_effect supervises sees reads_conference shows_membership
returns-clause-memberships c = record {
  all_are_made = refl;
  places = refl;
  goes = refl;
  goes_nowhere = refl;
  goes_as_invited = refl;
  goes_not = refl;
  goes_by_no_right = refl;
  leaves = refl;
  taken_out_of_ones_conference = refl;
  taken_out_by_its_supervisor = refl;
  taken_out_by_strength = refl;
  not_taken_out = refl;
  not_strong_enough = refl;
  stays_in_letterbox = refl;
  leaves_letterbox_of_another = refl;
  taking_out_refused = refl;
  hidden_to_take_out = refl;
  members_told = refl;
  members_told_to_strength = refl;
  secret_told_to_its_supervisor = refl;
  seen_as_invited = refl;
  secret_by_its_bit = refl;
  members_from_a_place = refl;
  no_members = refl;
  members_refused = refl;
  type_set = refl;
  type_set_by_its_supervisor = refl;
  type_set_by_strength = refl;
  invitation_taken = refl;
  kept_with_another_type = refl;
  time_with_another_type = refl;
  places_with_another_type = refl;
  type_not_set = refl;
  type_refused = refl;
  secret_type_refused = refl;
  forbids_by_its_bit = refl;
  joins_itself = refl;
  joins_not = refl;
  returns_to_letterbox = refl;
  supervisor_joins = refl;
  added_by_strength = refl;
  added_by_its_supervisor = refl;
  may_not_read_it = refl;
  added_to_ones_conference = refl;
  invited = refl;
  invited_by_supervisor = refl;
  invited_to_letterbox = refl;
  not_invited = refl;
  invited_by_members_that_supervise = refl;
  set_again = refl;
  set_again_as_invited = refl;
  set_again_by_strength = refl;
  set_again_by_its_supervisor = refl;
  set_again_under_another = refl;
  not_set_again = refl;
  adding_refused = refl;
  secret_refused = refl;
  placed = refl;
  placed_downwards = refl;
  placed_anew = refl;
  places_follow = refl;
  place_past_the_end = refl;
  joining_order_kept = refl;
  joins_last = refl;
  reads_kept = refl;
  time_kept = refl;
  time_of_joining = refl;
  read_before_any = refl;
  memberships_at_the_limit = refl;
  limit_is_last = refl;
  set_again_at_the_limit = refl;
  fits_at_the_limit = refl;
  calls_fit = refl;
  read_told = refl;
  read_told_to_another = refl;
  first_ranges = refl;
  ranges_counted = refl;
  secret_reads = refl;
  secret_reads_counted = refl;
  secret_reads_under_another = refl;
  never_read = refl;
  secret_membership_told = refl;
  querying_refused = refl;
  all_listed = refl;
  some_listed = refl;
  secret_listed = refl;
  secret_listed_to_its_supervisor = refl;
  listed_from_a_place = refl;
  membership_told = refl;
  membership_counted = refl;
  membership_in_secret = refl;
  no_memberships = refl;
  listing_refused = refl;
  gone_fits = refl;
  gone_once = refl;
  gone_closes_up = refl;
  places_close_up = refl;
  gone_leaves_others = refl;
  places_of_others = refl;
  reads_gone = refl;
  reads_of_others = refl;
  reads_gone_for_good = refl;
}

pub returns-clause-reading : goal.returns-clause-reading
unfolding items_of next_item_of refused_change inherit
    numbers_from conference_of person_of membership_of memberships_of members_of conferences_of person_flags_of
    conference_head_of membership_kind_of read_of text_of next_text_of next_local_of recipient_of recipients_of
    locals_of first_local_of fits after_effect supervises sees reads_conference shows_membership
returns-clause-reading c = record {
  marks = refl;
  marks_part = refl;
  marks_at_an_edge = refl;
  marked_before = refl;
  marks_nothing = refl;
  marks_a_deleted_text = refl;
  marks_the_last_number = refl;
  marks_as_invited = refl;
  marking_refused = refl;
  numbers_refused = refl;
  unread = refl;
  all_unread = refl;
  none_to_read = refl;
  unread_of_deleted_texts = refl;
  unread_refused = refl;
  last_read = refl;
  last_read_refused = refl;
  unmarks = refl;
  unmarks_in_the_middle = refl;
  unmarks_the_only_one = refl;
  not_read_before = refl;
  unmarking_refused = refl;
  ranges_set = refl;
  ranges_merged = refl;
  ranges_invalid = refl;
  ranges_out_of_order = refl;
  ranges_past_the_highest = refl;
  first_fault = refl;
  ranges_refused = refl;
  unread_told = refl;
  unread_in_secret = refl;
  unread_as_invited = refl;
  all_read = refl;
  read_past_the_highest = refl;
  first_deleted = refl;
  first_left_unread = refl;
  middle_deleted = refl;
  last_deleted = refl;
  all_deleted = refl;
  passive_no_more = refl;
  passive_by_its_bit = refl;
  unread_by_places = refl;
  secret_unread = refl;
  secret_by_its_flag = refl;
  secret_unread_under_another = refl;
  secret_unread_under_members = refl;
  secret_unread_in_letterbox = refl;
  unread_under_another = refl;
  unread_confs_refused = refl;
  set_fits = refl;
  set_fits_not = refl;
  set_of_no_membership = refl;
  set_merges = refl;
  set_replaces = refl;
  set_has_its_time = refl;
  set_of_one = refl;
  set_of_one_conference = refl;
  time_of_one = refl;
}
