-- Each row is computed.
use Rattle.std.proofs.Common.{refl}
use Rattle.kom_types.specs.Names.{finds, is_name}
use Rattle.kom_types.specs.Mappings.{mapping_up, mapping_down}
use Rattle.kom_types.specs.AuxItems.{refused_change, inherit}
use Rattle.kom_rows.proofs.types.worked_tables.Goals as goal

pub returns : goal.returns
unfolding finds is_name mapping_up mapping_down refused_change inherit
returns c = record {
  fold_of_latin_letters = refl;
  clash_of_letters = refl;
  no_clash_of_a_prefix = refl;
  words_outside_parentheses = refl;
  empty_pattern = refl;
  pattern_with_parentheses = refl;
  two_words = refl;
  second_word_of_another = refl;
  too_many_words = refl;
  small_letter_finds_capital = refl;
  control_character = refl;
  no_word = refl;
  good_name = refl;
  sparse_upwards = refl;
  dense_upwards = refl;
  first_in_a_gap = refl;
  none_above = refl;
  all_upwards = refl;
  none_asked = refl;
  two_downwards = refl;
  below_a_ceiling = refl;
  ceiling_too_high = refl;
  none_asked_below = refl;
  unknown_tag = refl;
  letterboxes_alone = refl;
  one_of_its_tag = refl;
  deleted_flag = refl;
  not_the_owner = refl;
  reader_of_a_text = refl;
  reader_of_a_conference = refl;
  room_after_deletion = refl;
  deleted_twice = refl;
  no_such_number = refl;
  of_another = refl;
  secret_of_another = refl;
  read_confirm_stays = refl;
  inherited_by_a_comment = refl;
  inherited_once_more = refl;
  one_of_a_tag_is_not_inherited = refl;
}
