-- The calls about memberships. (Protocol A, "Protocol Requests".)
use Rattle.std.specs.Prelude.{List, [], ◌∷◌}
use Rattle.kom_types.specs.declared.calls.Call.TheVariants as call
use Rattle.kom_types.specs.calls.Arguments.{bits, byte, flag, integer, numbers, read_ranges}
use Rattle.kom_types.specs.calls.Pattern.{Pattern, one, two, three, four, five}

-- the pattern of each call
abbrev pub patterns : List Pattern
patterns =
    record { number = 15; reads = two integer integer call.SubMember } ∷
    record { number = 27; reads = two integer numbers call.MarkAsRead } ∷
    record { number = 40; reads = two integer integer call.SetUnread } ∷
    record { number = 52; reads = one integer call.GetUnreadConfs } ∷
    record { number = 77; reads = two integer integer call.SetLastRead } ∷
    record { number = 100; reads = five integer integer byte integer (bits 8) call.AddMember } ∷
    record { number = 101; reads = three integer integer integer call.GetMembers } ∷
    record { number = 102; reads = three integer integer (bits 8) call.SetMembershipType } ∷
    record { number = 107; reads = four integer integer flag integer call.QueryReadTexts } ∷
    record {
      number = 108;
      reads = five integer integer integer flag integer call.GetMembership;
    } ∷
    record { number = 109; reads = two integer integer call.MarkAsUnread } ∷
    record { number = 110; reads = two integer read_ranges call.SetReadRanges } ∷
    []
