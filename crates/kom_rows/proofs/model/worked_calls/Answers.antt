-- Each row is computed.
use Rattle.std.proofs.Common.{refl}
use Rattle.sha2.specs.Sha256.{sha256, digest_bytes, hash_after, compress, rounds, schedule, first_words}
use Rattle.kom_types.specs.Names.{finds, is_name}
use Rattle.kom_types.specs.tables.Persons.{password_hash}
use Rattle.kom_types.specs.AuxItems.{refused_change, inherit}
use Rattle.kom_model.specs.Db.{items_of, next_item_of}
use Rattle.kom_model.specs.Db.{conference_of, person_of, membership_of, memberships_of, conferences_of}
use Rattle.kom_model.specs.Db.{next_conference_of}
use Rattle.kom_model.specs.Db.{conference_head_of, membership_kind_of}
use Rattle.kom_model.specs.Effects.{fits, after_effect}
use Rattle.kom_model.specs.Initial.{initial}
use Rattle.kom_model.specs.Rights.{supervises, sees}
use Rattle.kom_rows.proofs.model.worked_calls.Goals as goal

pub returns : goal.returns
unfolding items_of next_item_of refused_change inherit
    conference_head_of membership_kind_of finds is_name password_hash conference_of person_of membership_of
    memberships_of conferences_of
    next_conference_of fits after_effect initial supervises sees sha256 digest_bytes hash_after compress rounds schedule
    first_words
returns c = record {
  hash_of_no_password = refl;
  begins = refl;
  login_of_no_person = refl;
  login_of_a_conference = refl;
  login_by_another_password = refl;
  login_by_the_password = refl;
  login_by_a_strong_session = refl;
  logs_in = refl;
  logs_in_again = refl;
  logs_out = refl;
  nobody_logs_out = refl;
  privileges_by_nobody = refl;
  privileges_of_no_person = refl;
  privileges_without_strength = refl;
  privileges_are_set = refl;
  person_made = refl;
  made_by_another = refl;
  name_of_a_letterbox = refl;
  name_of_a_conference = refl;
  name_without_a_word = refl;
  name_too_long = refl;
  conference_by_nobody = refl;
  letterbox_refused = refl;
  secret_needs_protection = refl;
  conference_made = refl;
  renamed_alike = refl;
  renamed_as_another = refl;
  found_persons = refl;
  found_conferences = refl;
  next_above = refl;
  none_above = refl;
  next_below = refl;
  none_below = refl;
  nearest_by_nobody = refl;
  first_unused = refl;
  too_long_to_do = refl;
  client_told = refl;
  client_of_no_session = refl;
  client_of_an_ended_session = refl;
}
