-- Each row is computed.
use Rattle.std.proofs.Common.{refl}
use Rattle.std.specs.Fmt.{digits}
use Rattle.kom_types.specs.Reading.{patterns, call_of, reading_of}
use Rattle.kom_types.specs.Times.{time_of, day_from, month_from}
use Rattle.kom_types.specs.Printing.{print_of}
use Rattle.kom_rows.proofs.types.worked_rows.Goals as goal

pub returns : goal.returns
unfolding digits patterns call_of reading_of time_of day_from month_from print_of
returns c = record {
  greeting_and_line = refl;
  blank_after_the_letter = refl;
  empty_name = refl;
  any_byte_in_a_string = refl;
  other_byte_outside = refl;
  blank_line = refl;
  tabs_and_returns = refl;
  sign_in_a_number = refl;
  no_greeting = refl;
  five_digits = refl;
  name_too_long = refl;
  one_token = refl;
  brace_after_a_token = refl;
  string_too_long = refl;
  seventeen_digits = refl;
  sign_of_a_client = refl;
  lines_of_a_server = refl;
  signs_without_digits = refl;
  blank_after_a_sign = refl;
  string_after_a_sign = refl;
  no_server = refl;
  string_to_come = refl;
  any_tokens = refl;
  good_call = refl;
  flags_of_a_login = refl;
  four_bits_of_a_type = refl;
  eight_bits_of_a_type = refl;
  five_bits_of_a_type = refl;
  array_of_numbers = refl;
  empty_in_braces = refl;
  empty_by_a_star = refl;
  contents_left_out = refl;
  array_too_long = refl;
  array_too_long_alone = refl;
  fewer_than_said = refl;
  more_than_said = refl;
  no_truth_value = refl;
  fault_to_the_left = refl;
  long_truth_value = refl;
  priority_too_high = refl;
  links_and_items = refl;
  time_of_a_link = refl;
  no_truth_value_in_a_time = refl;
  tag_of_no_link = refl;
  ranges = refl;
  call_of_no_table = refl;
  printed = refl;
  first_moment = refl;
  leap_day = refl;
  last_moment = refl;
  no_result = refl;
  empty_array = refl;
  some_numbers = refl;
  one_conference = refl;
  one_membership = refl;
  one_mapping = refl;
  one_message = refl;
  message_of_a_text = refl;
}
