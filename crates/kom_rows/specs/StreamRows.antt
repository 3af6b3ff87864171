use Rattle.std.specs.Prelude.{◌≡◌, ℕ, true, false, List, [], ◌∷◌, ◌++◌, codes, Option, Some, None}
use Rattle.std.specs.Prelude.{flat_map}
use Rattle.kom_types.specs.declared.calls.Call.{Call}
use Rattle.kom_types.specs.declared.calls.Call.TheVariants as call
use Rattle.kom_types.specs.declared.calls.Call.TheVariants.{Refused}
use Rattle.kom_types.specs.declared.replies.Reply.TheVariants as reply
use Rattle.kom_types.specs.declared.items.Item.TheVariants as item
use Rattle.kom_types.specs.declared.memberships.RangesShown.TheVariants as shown
use Rattle.kom_types.specs.declared.messages.Message.TheVariants as message
use Rattle.kom_types.specs.declared.texts.Block.TheVariants as block
use Rattle.kom_types.specs.declared.texts.MiscInfo.TheVariants as misc
use Rattle.kom_types.specs.declared.side.Side.TheVariants as side
use Rattle.kom_types.specs.Token.{Token, Digits, Text, Signed}
use Rattle.kom_types.specs.Grammar.{Whole, Prefix, Unfit, line_form}
use Rattle.kom_types.specs.Stream.{Malformed, stream_by, stream_of}
use Rattle.kom_types.specs.Reading.{Request, reading_of, fault_of}
use Rattle.kom_types.specs.Printing.{print_of}

-- the tokens of a line without its line feed
abbrev pub tokens_of : List ℕ → List Token
tokens_of line = elim (line_form side.Client (line ++ 10 ∷ [])) [
  | Whole tokens ↦ tokens
  | Prefix ↦ []
  | Unfit ↦ []
]

-- a line that reads as this call
abbrev pub reads_as : ℕ → Call → Option Request
reads_as reference call = Some (record { reference = reference; call = call })

-- what the definitions say of streams and items that were worked out by hand
pub record StreamRows : Type 0 where
  pub greeting_and_line : stream_of (codes "A5Hceder\n1 56\n") ≡ record {
    greeting = Some (codes "ceder");
    lines = record { tokens = Digits (codes "1") ∷ Digits (codes "56") ∷ []; end = 13 } ∷ [];
    rest = [];
    fault = None;
  }
  pub blank_after_the_letter : (stream_of (codes "A 9Hanna%peer\n")).greeting
      ≡ Some (codes "anna%peer")
  pub empty_name : (stream_of (codes "A0H\n")).greeting ≡ Some []
  pub any_byte_in_a_string : (stream_of (65 ∷ 50 ∷ 72 ∷ 0 ∷ 200 ∷ 10 ∷ [])).greeting
      ≡ Some (0 ∷ 200 ∷ [])
  pub other_byte_outside : fault_of (65 ∷ 48 ∷ 72 ∷ 200 ∷ []) ≡ Some 3
  pub blank_line : (stream_of (codes "A1Ha\n\n1 56\n")).lines
      ≡ record { tokens = Digits (codes "1") ∷ Digits (codes "56") ∷ []; end = 10 } ∷ []
  pub tabs_and_returns : (stream_of (codes "A1Ha \t\r\n \t1\t \r2\r\n")).lines
      ≡ record { tokens = Digits (codes "1") ∷ Digits (codes "2") ∷ []; end = 16 } ∷ []
  pub sign_in_a_number : fault_of (codes "A5Hceder\n1 +5\n") ≡ Some 11
  pub no_greeting : fault_of (codes "B") ≡ Some 0
  pub five_digits : fault_of (codes "A12345") ≡ Some 5
  pub name_too_long : fault_of (codes "A1025H") ≡ Some 5
  pub one_token : fault_of (codes "A1Ha\n5\n") ≡ Some 6
  pub brace_after_a_token : fault_of (codes "A1Ha\n1 56}") ≡ Some 9
  pub string_too_long : fault_of (codes "A1Ha\n1 86 4294967296H") ≡ Some 20
  pub seventeen_digits : fault_of (codes "A1Ha\n1 99999999999999999") ≡ Some 23
  pub sign_of_a_client : fault_of (codes "A1Ha\n1 =2\n") ≡ Some 7
  pub lines_of_a_server : stream_by side.Server (codes "LysKOM\n=1 1\n:2 9 5 1\n%2 14 1\n")
      ≡ record {
        greeting = Some [];
        lines = record { tokens = Signed 61 (codes "1") ∷ Digits (codes "1") ∷ []; end = 11 }
            ∷ record {
              tokens = Signed 58 (codes "2") ∷ Digits (codes "9") ∷ Digits (codes "5")
                  ∷ Digits (codes "1") ∷ [];
              end = 20;
            }
            ∷ record {
              tokens = Signed 37 (codes "2") ∷ Digits (codes "14") ∷ Digits (codes "1") ∷ [];
              end = 28;
            }
            ∷ [];
        rest = [];
        fault = None;
      }
  pub signs_without_digits : (stream_by side.Server (codes "LysKOM\n%%Protocol error.\n")).fault
      ≡ Some (Malformed 8)
  pub blank_after_a_sign : (stream_by side.Server (codes "LysKOM\n= 1\n")).fault
      ≡ Some (Malformed 8)
  pub string_after_a_sign : (stream_by side.Server (codes "LysKOM\n=1H\n")).fault
      ≡ Some (Malformed 9)
  pub no_server : (stream_by side.Server (codes "Lyskom")).fault ≡ Some (Malformed 3)
  pub string_to_come : fault_of (codes "A1Ha\n1 86 4294967295H") ≡ None
  pub any_tokens : reading_of (Digits (codes "7") ∷ Digits (codes "999")
      ∷ Text (codes "a\n{ 1 }") ∷ []) ≡ Some (record { reference = 7; call = Refused 2 0 })
  pub good_call : reading_of (tokens_of (codes "1 100 6 7 100 0 01000001"))
      ≡ reads_as 1 (call.AddMember 6 7 100 0 65)
  pub flags_of_a_login : reading_of (tokens_of (codes "2 62 5 0H 1"))
      ≡ reads_as 2 (call.Login 5 [] true)
  pub four_bits_of_a_type : reading_of (tokens_of (codes "1 21 6 0001"))
      ≡ reads_as 1 (call.SetConfType 6 16)
  pub eight_bits_of_a_type : reading_of (tokens_of (codes "1 21 6 00001000"))
      ≡ reads_as 1 (call.SetConfType 6 8)
  pub five_bits_of_a_type : reading_of (tokens_of (codes "1 21 6 00010")) ≡ None
  pub array_of_numbers : reading_of (tokens_of (codes "1 80 3 { 5 12 15 }"))
      ≡ reads_as 1 (call.AcceptAsync (5 ∷ 12 ∷ 15 ∷ []))
  pub empty_in_braces : reading_of (tokens_of (codes "1 80 0 { }"))
      ≡ reads_as 1 (call.AcceptAsync [])
  pub empty_by_a_star : reading_of (tokens_of (codes "1 80 0 *")) ≡ reads_as 1 (call.AcceptAsync [])
  pub contents_left_out : reading_of (tokens_of (codes "1 80 3 *")) ≡ None
  pub array_too_long : reading_of (tokens_of (codes "1 80 2049 { }")) ≡ reads_as 1 (Refused 46 0)
  pub array_too_long_alone : reading_of (tokens_of (codes "1 80 2049")) ≡ reads_as 1 (Refused 46 0)
  pub fewer_than_said : reading_of (tokens_of (codes "1 80 2 { 5 }")) ≡ None
  pub more_than_said : reading_of (tokens_of (codes "1 80 1 { 5 12 }")) ≡ None
  pub no_truth_value : reading_of (tokens_of (codes "1 76 0H 2")) ≡ reads_as 1 (Refused 61 0)
  pub fault_to_the_left : reading_of (tokens_of (codes "1 76 5 2 1")) ≡ None
  pub long_truth_value : reading_of (tokens_of (codes "1 83 01 0000000000 9"))
      ≡ reads_as 1 (call.WhoIsOnDynamic true false 9)
  pub priority_too_high : reading_of (tokens_of (codes "1 100 6 7 256 0 00000000")) ≡ None
  pub links_and_items : reading_of (tokens_of (codes
      "1 86 5HHello 3 { 0 6 1 7 2 1 } 1 { 1 00000000 0 10Htext/plain }"))
      ≡ reads_as 1 (call.CreateText (record {
        body = codes "Hello";
        misc_inputs = record { tag = 0; value = 6 } ∷ record { tag = 1; value = 7 }
            ∷ record { tag = 2; value = 1 } ∷ [];
        aux_items = record { tag = 1; flags = 0; inherit_limit = 0; content = codes "text/plain" }
            ∷ [];
      }))
  pub time_of_a_link : reading_of (tokens_of (codes "1 86 0H 1 { 9 0 0 0 1 0 70 4 0 0 } 0 *"))
      ≡ reads_as 1 (call.CreateText (record {
        body = [];
        misc_inputs = record { tag = 9; value = 0 } ∷ [];
        aux_items = [];
      }))
  pub no_truth_value_in_a_time : reading_of (tokens_of (codes
      "1 86 0H 1 { 9 0 0 0 1 0 70 4 0 2 } 0 *"))
      ≡ reads_as 1 (Refused 61 0)
  pub tag_of_no_link : reading_of (tokens_of (codes "1 86 0H 1 { 10 1 } 0 *")) ≡ None
  pub ranges : reading_of (tokens_of (codes "1 110 6 2 { 1 4 6 9 }"))
      ≡ reads_as 1 (call.SetReadRanges 6
      (record { first = 1; last = 4 } ∷ record { first = 6; last = 9 } ∷ []))
  pub call_of_no_table : reading_of (tokens_of (codes "1 41 5 5")) ≡ reads_as 1 (Refused 2 0)
  pub printed : flat_map print_of (item.Hello ∷ item.Reply 1 (reply.Number 1)
      ∷ item.Reply 7 (reply.Refused 2 0) ∷ item.Fault ∷ [])
      ≡ codes "LysKOM\n=1 1\n%7 2 0\n%%Protocol error.\n"
  pub first_moment : print_of (item.Reply 1 (reply.Time 0)) ≡ codes "=1 0 0 0 1 0 70 4 0 0\n"
  pub leap_day : print_of (item.Reply 1 (reply.Time 951782400)) ≡ codes "=1 0 0 0 29 1 100 2 59 0\n"
  pub last_moment : print_of (item.Reply 1 (reply.Time 253402300799))
      ≡ codes "=1 59 59 23 31 11 8099 5 364 0\n"
  pub no_result : print_of (item.Reply 3 reply.Done) ≡ codes "=3\n"
  pub empty_array : print_of (item.Reply 7 (reply.Marks [])) ≡ codes "=7 0 *\n"
  pub some_numbers : print_of (item.Reply 1 (reply.Numbers (5 ∷ 12 ∷ []))) ≡ codes "=1 2 { 5 12 }\n"
  pub one_conference : print_of (item.Reply 2 (reply.Conference (record {
    name = codes "Open";
    kind = 8;
    created = 0;
    last_written = 0;
    creator = 5;
    presentation = 0;
    supervisor = 6;
    submitters = 0;
    super_conference = 0;
    motd = 1;
    nice = 77;
    keep_commented = 78;
    members = 2;
    first_local = 1;
    texts = 3;
    expire = 4;
    aux_items = [];
  }))) ≡ codes "=2 4HOpen 00001000 0 0 0 1 0 70 4 0 0 0 0 0 1 0 70 4 0 0 "
      ++ codes "5 0 6 0 0 1 77 78 2 1 3 4 0 *\n"
  pub one_membership : print_of (item.Reply 1 (reply.Membership (record {
    position = 0;
    last_time_read = 0;
    conference = 6;
    priority = 100;
    ranges = shown.Count 3;
    added_by = 5;
    added_at = 0;
    kind = 128;
  }))) ≡ codes "=1 0 0 0 0 1 0 70 4 0 0 6 100 3 * 5 0 0 0 1 0 70 4 0 0 10000000\n"
  pub one_mapping : print_of (item.Reply 1 (reply.Mapping (record {
    begin = 3;
    end = 6;
    later_texts_exist = true;
    block = block.Dense 4 (4 ∷ 5 ∷ []);
  }))) ≡ codes "=1 3 6 1 1 4 2 { 4 5 }\n"
  pub one_message : print_of (item.Message (message.SendMessage (record {
    recipient = 0;
    sender = 5;
    text = codes "yo";
  }))) ≡ codes ":3 12 0 5 2Hyo\n"
  pub message_of_a_text : print_of (item.Message (message.NewText 9 (record {
    created = 0;
    author = 5;
    lines = 1;
    chars = 5;
    marks = 0;
    misc_infos = misc.Recipient 6 ∷ misc.Local 1 ∷ misc.SentAt 0 ∷ [];
    aux_items = record {
      number = 1;
      tag = 1;
      creator = 5;
      at = 0;
      flags = 64;
      limit = 0;
      content = codes "x";
    } ∷ [];
  }))) ≡ codes ":2 15 9 0 0 0 1 0 70 4 0 0 5 1 5 0 3 { 0 6 6 1 9 0 0 0 1 0 70 4 0 0 } "
      ++ codes "1 { 1 1 5 0 0 0 1 0 70 4 0 0 01000000 0 1Hx }\n"
