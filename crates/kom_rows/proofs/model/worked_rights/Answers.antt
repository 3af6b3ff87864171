-- Each row is computed.
use Rattle.std.proofs.Common.{refl}
use Rattle.kom_types.specs.AuxItems.{refused_change, inherit}
use Rattle.kom_model.specs.Db.{items_of, next_item_of}
use Rattle.kom_model.specs.Db.{conference_of, person_of, membership_of, memberships_of, members_of}
use Rattle.kom_model.specs.Db.{conferences_of}
use Rattle.kom_model.specs.Db.{conference_head_of, membership_kind_of}
use Rattle.kom_model.specs.Effects.{fits, after_effect}
use Rattle.kom_model.specs.Rights.{supervises, sees, reads_conference}
use Rattle.kom_rows.proofs.model.worked_rights.Goals as goal

pub returns : goal.returns
unfolding items_of next_item_of refused_change inherit
    conference_head_of membership_kind_of conference_of person_of membership_of memberships_of members_of conferences_of
    fits after_effect
    supervises sees reads_conference
returns c = record {
  all_are_made = refl;
  next_number = refl;
  number_used = refl;
  number_left_out = refl;
  last_number = refl;
  past_the_last_number = refl;
  name_taken = refl;
  longest_name = refl;
  name_too_long = refl;
  secret_and_unprotected = refl;
  secret_and_protected = refl;
  does_not_fit = refl;
  renamed_alike = refl;
  renamed_as_another = refl;
  renamed_missing = refl;
  type_set = refl;
  type_unguarded = refl;
  letterbox_lost = refl;
  letterbox_made = refl;
  field_set = refl;
  field_of_another = refl;
  person_without_letterbox = refl;
  person_twice = refl;
  field_of_nobody = refl;
  user_name_too_long = refl;
  logged_in = refl;
  counted_to_the_end = refl;
  member_of_nothing = refl;
  nobody_joins = refl;
  by_places = refl;
  by_joining = refl;
  moved_down = refl;
  moved_up = refl;
  set_again_in_its_turn = refl;
  read_as_added = refl;
  own_letterbox = refl;
  by_a_conference = refl;
  only_invited = refl;
  member_supervises_not = refl;
  nobody_supervises = refl;
  missing_is_unsupervised = refl;
  open_to_nobody = refl;
  secret_to_nobody = refl;
  secret_to_others = refl;
  secret_to_its_supervisor = refl;
  secret_to_the_invited = refl;
  strong_sees_all = refl;
  missing_is_seen_by_none = refl;
  protected_is_seen = refl;
  protected_is_not_read = refl;
  read_by_the_invited = refl;
  read_by_its_person = refl;
  letterbox_of_another = refl;
  open_is_read = refl;
  number_never_given = refl;
  number_zero = refl;
  renamed_too_long = refl;
  field_of_no_conference = refl;
  secret_letterbox = refl;
  longest_user_name = refl;
  login_of_nobody = refl;
  password_of_nobody = refl;
  count_of_nobody = refl;
  conference_as_made = refl;
  conference_with_all_set = refl;
  person_as_made = refl;
  person_with_all_set = refl;
  membership_as_made = refl;
  membership_set_again = refl;
  places_count_up = refl;
  moved_past_the_end = refl;
  places_of_others = refl;
  taken_out = refl;
  limit_of_memberships = refl;
  seen_by_its_person = refl;
  read_by_its_own_person = refl;
  nobody_is_no_supervisor = refl;
  named_supervisor = refl;
  strong_reads_all = refl;
}
