-- How the arguments of a message are read, by its number and by how many they are.
use Rattle.std.specs.Prelude.{ℕ, ◌==◌, if◌then◌else◌, List}
use Rattle.kom_types.specs.declared.async_numbers.TheConstants as async
use Rattle.kom_types.specs.declared.messages.Message.{Message}
use Rattle.kom_types.specs.declared.messages.Message.TheVariants as message
use Rattle.kom_types.specs.Token.{Token}
use Rattle.kom_types.specs.calls.Arguments.{Taken, Departs, Malformed}
use Rattle.kom_records.specs.Arguments.{two_numbers, three_numbers, new_name, message_sent}
use Rattle.kom_records.specs.Arguments.{with_stat}
use Rattle.kom_records.specs.Arguments.{aux_changed}
use Rattle.kom_records.specs.Rules.{number, map_taken}

abbrev pub one_argument : ℕ → List Token → Taken Message
one_argument which t =
    if which == async.LEAVE_CONF then map_taken message.LeaveConference (number t)
    else Departs Malformed

abbrev pub two_arguments : ℕ → List Token → Taken Message
two_arguments which t =
    if which == async.LOGIN then two_numbers message.Login t
    else if which == async.LOGOUT then two_numbers message.Logout t
    else if which == async.DELETED_TEXT then with_stat message.DeletedText t
    else if which == async.NEW_TEXT then with_stat message.NewText t
    else if which == async.NEW_MEMBERSHIP then two_numbers message.NewMembership t
    else Departs Malformed

abbrev pub three_arguments : ℕ → List Token → Taken Message
three_arguments which t =
    if which == async.NEW_NAME then new_name t
    else if which == async.SEND_MESSAGE then message_sent t
    else if which == async.NEW_RECIPIENT then three_numbers message.NewRecipient t
    else if which == async.SUB_RECIPIENT then three_numbers message.SubRecipient t
    else if which == async.TEXT_AUX_CHANGED then aux_changed t
    else Departs Malformed

abbrev pub arguments_of : ℕ → ℕ → List Token → Taken Message
arguments_of count which t =
    if count == 1 then one_argument which t
    else if count == 2 then two_arguments which t
    else if count == 3 then three_arguments which t
    else Departs Malformed
