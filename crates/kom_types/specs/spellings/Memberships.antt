-- How memberships are spelled. (Protocol A, "Membership".)
use Rattle.std.specs.Prelude.{◌++◌}
use Rattle.kom_types.specs.declared.memberships.Member.{Member}
use Rattle.kom_types.specs.declared.memberships.Membership.{Membership}
use Rattle.kom_types.specs.declared.memberships.RangesShown.{RangesShown}
use Rattle.kom_types.specs.declared.memberships.RangesShown.TheVariants as shown
use Rattle.kom_types.specs.declared.memberships.ReadRange.{ReadRange}
use Rattle.kom_types.specs.spellings.Words.{Words, number, bits, time, array, array_count}

abbrev pub read_range : ReadRange → Words
read_range of = number of.first ++ number of.last

abbrev pub ranges_shown : RangesShown → Words
ranges_shown (shown.Count count) = array_count count
ranges_shown (shown.All ranges) = array read_range ranges

abbrev pub membership : Membership → Words
membership of =
    number of.position ++ time of.last_time_read ++ number of.conference ++ number of.priority
    ++ ranges_shown of.ranges ++ number of.added_by ++ time of.added_at ++ bits 8 of.kind

abbrev pub member : Member → Words
member of = number of.person ++ number of.added_by ++ time of.added_at ++ bits 8 of.kind
