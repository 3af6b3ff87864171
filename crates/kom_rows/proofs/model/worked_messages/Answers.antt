-- Each row is computed.
use Rattle.std.proofs.Common.{refl}
use Rattle.std.specs.Fmt.{digits}
use Rattle.sha2.specs.Sha256.{sha256, digest_bytes, hash_after, compress, rounds, schedule, first_words}
use Rattle.kom_types.specs.AuxItems.{refused_change, inherit}
use Rattle.kom_types.specs.Names.{is_name}
use Rattle.kom_types.specs.Printing.{print_of}
use Rattle.kom_types.specs.Times.{time_of, day_from, month_from}
use Rattle.kom_types.specs.tables.Persons.{password_hash}
use Rattle.read_ranges.specs.Numbers.{numbers_from}
use Rattle.kom_model.specs.Db.{conference_of, person_of, membership_of, memberships_of, memberships_at}
use Rattle.kom_model.specs.Db.{members_of, conferences_of, next_conference_of, conference_head_of}
use Rattle.kom_model.specs.Db.{membership_kind_of, person_flags_of, read_of, text_of, text_author_of}
use Rattle.kom_model.specs.Db.{texts_of, next_text_of, next_local_of, next_created_of, recipient_of}
use Rattle.kom_model.specs.Db.{recipients_of, link_of, links_from, links_into, links_of, locals_of}
use Rattle.kom_model.specs.Db.{first_local_of, created_by, first_created_of, mark_of, marks_of}
use Rattle.kom_model.specs.Db.{marks_on, items_of, next_item_of}
use Rattle.kom_model.specs.Decide.{decision_of}
use Rattle.kom_model.specs.Effects.{fits, after_effect}
use Rattle.kom_model.specs.Rights.{supervises, sees, reads_conference, reads, may_submit}
use Rattle.kom_model.specs.Shown.{shows_membership}
use Rattle.kom_model.specs.ToWhom.{messages_of}
use Rattle.kom_rows.proofs.model.worked_messages.Goals as goal

pub returns : goal.returns
unfolding digits sha256 digest_bytes hash_after compress rounds schedule first_words
    refused_change inherit is_name print_of time_of day_from month_from password_hash numbers_from
    conference_of person_of membership_of memberships_of memberships_at members_of
    conferences_of next_conference_of conference_head_of membership_kind_of person_flags_of read_of
    text_of text_author_of texts_of next_text_of next_local_of next_created_of recipient_of
    recipients_of link_of links_from links_into links_of locals_of first_local_of created_by
    first_created_of mark_of marks_of marks_on items_of next_item_of decision_of fits after_effect
    supervises sees reads_conference reads may_submit shows_membership messages_of
returns c = record {
  all_are_made = refl;
  renamed_to_all = refl;
  renamed_to_the_caller = refl;
  renamed_in_secret = refl;
  renamed_protected = refl;
  renamed_letterbox = refl;
  renamed_alike = refl;
  not_renamed = refl;
  not_renamed_by_others = refl;
  synced = refl;
  synced_to_the_caller = refl;
  not_synced = refl;
  left_alone = refl;
  left_through_another = refl;
  left_with_the_caller = refl;
  left_in_secret = refl;
  invitation_ended = refl;
  not_left = refl;
  left_with_the_conference = refl;
  left_with_none = refl;
  not_deleted = refl;
  bo_went = refl;
  bo_heard_it = refl;
  bo_went_through_the_strong = refl;
  di_went = refl;
  just_went = refl;
  logged_in = refl;
  logged_in_from_nobody = refl;
  logged_in_invisibly = refl;
  not_logged_in = refl;
  logged_in_over_another = refl;
  logged_in_again = refl;
  logged_in_invisibly_over_another = refl;
  said_to_all = refl;
  said_to_the_caller = refl;
  said_to_members = refl;
  said_in_secret = refl;
  said_to_persons = refl;
  said_to_the_invited = refl;
  not_said = refl;
  logged_out = refl;
  logged_out_itself = refl;
  logged_out_at_once = refl;
  nobody_logged_out = refl;
  disconnected_itself = refl;
  disconnected_another = refl;
  disconnected_invisible = refl;
  nobody_disconnected = refl;
  first_deleted = refl;
  second_deleted = refl;
  third_deleted = refl;
  fourth_deleted = refl;
  fifth_deleted = refl;
  no_text_deleted = refl;
  text_of_di = refl;
  text_of_anna = refl;
  text_without_an_author = refl;
  text_to_its_author = refl;
  text_to_the_invited = refl;
  text_to_nobody = refl;
  no_text_made = refl;
  recipient_added = refl;
  recipient_added_for_few = refl;
  recipient_added_from_secret = refl;
  recipient_added_for_nobody = refl;
  no_recipient_added = refl;
  recipient_went = refl;
  copy_recipient_went = refl;
  blind_recipient_went = refl;
  no_recipient_went = refl;
  joined = refl;
  joined_through_another = refl;
  joined_by_strength = refl;
  not_joined = refl;
  area_set = refl;
  area_set_again = refl;
  area_set_by_another = refl;
  no_area_set = refl;
  presented = refl;
  presented_in_secret = refl;
  presented_again = refl;
  door_set = refl;
  door_set_again = refl;
  not_presented = refl;
  items_told_to_each = refl;
  secret_item_went = refl;
  secret_item_added = refl;
  hiding_item_went = refl;
  hiding_item_added = refl;
  items_went_in_turn = refl;
  item_of_the_second_went = refl;
  item_told_to_its_creator = refl;
  no_items_told = refl;
  accepted_alone = refl;
  not_accepted = refl;
  none_accepted = refl;
  sends_nothing = refl;
  shutdown_sends_nothing = refl;
  sync_comes_to = refl;
  sync_refused = refl;
  shutdown_comes_to = refl;
  shutdown_refused = refl;
  saying_refused = refl;
  saying_to_nobody = refl;
  saying_comes_to = refl;
  ends_itself = refl;
  ends_itself_at_once = refl;
  nobody_ends_itself = refl;
  ends_another = refl;
  ending_refused = refl;
  tells_all_sessions = refl;
  tells_sessions_to_others = refl;
  tells_some_sessions = refl;
  tells_sessions_in_use = refl;
  tells_a_long_time = refl;
  tells_of_nobody_as_visible = refl;
  tells_a_session = refl;
  telling_refused = refl;
}
