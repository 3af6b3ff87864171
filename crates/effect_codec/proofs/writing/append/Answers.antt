use Rattle.std.proofs.Common.{refl}
use Rattle.effect_codec.proofs.Puts.{puts_2, puts_3, puts_4, put_effect, amount_put, setting_put}
use Rattle.effect_codec.proofs.writing.append.Goals as goal

pub append_conference-requires-clause-lengths : goal.append_conference-requires-clause-lengths
append_conference-requires-clause-lengths c = rw c.as_slice.ensures (rw c.in-ConfAdded.is at c.requires.lengths)

pub append_conference-requires-clause-room : goal.append_conference-requires-clause-room
append_conference-requires-clause-room c = rw c.as_slice.ensures (rw c.in-ConfAdded.is at c.requires.room)

pub returns-in-ConfAdded-clause-items : goal.returns-in-ConfAdded-clause-items
returns-in-ConfAdded-clause-items c =
    put_effect _ _ _ _ c.in-ConfAdded.is (rw c.as_slice.ensures at c.append_conference.ensures.items)

pub returns-in-ConfAdded-clause-range : goal.returns-in-ConfAdded-clause-range
returns-in-ConfAdded-clause-range c = rw c.in-ConfAdded.is (rw c.as_slice.ensures at c.append_conference.ensures.range)

pub append_login-requires-clause-lengths : goal.append_login-requires-clause-lengths
append_login-requires-clause-lengths c = rw c.as_slice-in-LoggedIn.ensures (rw c.in-LoggedIn.is at c.requires.lengths)

pub append_login-requires-clause-room : goal.append_login-requires-clause-room
append_login-requires-clause-room c = rw c.as_slice-in-LoggedIn.ensures (rw c.in-LoggedIn.is at c.requires.room)

pub returns-in-LoggedIn-clause-items : goal.returns-in-LoggedIn-clause-items
returns-in-LoggedIn-clause-items c =
    put_effect _ _ _ _ c.in-LoggedIn.is (rw c.as_slice-in-LoggedIn.ensures at c.append_login.ensures.items)

pub returns-in-LoggedIn-clause-range : goal.returns-in-LoggedIn-clause-range
returns-in-LoggedIn-clause-range c = rw c.in-LoggedIn.is (rw c.as_slice-in-LoggedIn.ensures at c.append_login.ensures.range)

pub append_text-requires-clause-lengths : goal.append_text-requires-clause-lengths
append_text-requires-clause-lengths c = rw c.as_slice-in-TextAdded.ensures (rw c.in-TextAdded.is at c.requires.lengths)

pub append_text-requires-clause-room : goal.append_text-requires-clause-room
append_text-requires-clause-room c = rw c.as_slice-in-TextAdded.ensures (rw c.in-TextAdded.is at c.requires.room)

pub returns-in-TextAdded-clause-items : goal.returns-in-TextAdded-clause-items
returns-in-TextAdded-clause-items c =
    put_effect _ _ _ _ c.in-TextAdded.is (rw c.as_slice-in-TextAdded.ensures at c.append_text.ensures.items)

pub returns-in-TextAdded-clause-range : goal.returns-in-TextAdded-clause-range
returns-in-TextAdded-clause-range c = rw c.in-TextAdded.is (rw c.as_slice-in-TextAdded.ensures at c.append_text.ensures.range)

pub append_read-requires-clause-lengths : goal.append_read-requires-clause-lengths
append_read-requires-clause-lengths c = rw c.as_slice-in-ReadSet.ensures (rw c.in-ReadSet.is at c.requires.lengths)

pub append_read-requires-clause-room : goal.append_read-requires-clause-room
append_read-requires-clause-room c = rw c.as_slice-in-ReadSet.ensures (rw c.in-ReadSet.is at c.requires.room)

pub returns-in-ReadSet-clause-items : goal.returns-in-ReadSet-clause-items
returns-in-ReadSet-clause-items c =
    put_effect _ _ _ _ c.in-ReadSet.is (rw c.as_slice-in-ReadSet.ensures at c.append_read.ensures.items)

pub returns-in-ReadSet-clause-range : goal.returns-in-ReadSet-clause-range
returns-in-ReadSet-clause-range c = rw c.in-ReadSet.is (rw c.as_slice-in-ReadSet.ensures at c.append_read.ensures.range)

pub returns-in-ConfField-clause-items : goal.returns-in-ConfField-clause-items
returns-in-ConfField-clause-items c =
    put_effect _ _ _ _ c.in-ConfField.is
    (puts_2 _ _ _ _ _ _
    c.put_start-in-ConfField.ensures.items
    (setting_put _ _ _ _ _ _ c.conf_setting-part.ensures.part c.conf_setting-part.ensures.value
    c.put_setting.ensures.items)
    refl)

pub returns-in-PersonAdded-clause-items : goal.returns-in-PersonAdded-clause-items
returns-in-PersonAdded-clause-items c =
    put_effect _ _ _ _ c.in-PersonAdded.is
    (puts_4 _ _ _ _ _ _ _ _ _ _
    c.put_start-in-PersonAdded.ensures.items
    c.put_half.ensures.items
    c.put_byte.ensures.items
    (amount_put _ _ _ _ c.seconds.ensures.value c.put_amount.ensures.items)
    refl)

pub returns-in-PersonField-clause-items : goal.returns-in-PersonField-clause-items
returns-in-PersonField-clause-items c =
    put_effect _ _ _ _ c.in-PersonField.is
    (puts_2 _ _ _ _ _ _
    c.put_start-in-PersonField.ensures.items
    (setting_put _ _ _ _ _ _ c.person_setting-part.ensures.part c.person_setting-part.ensures.value
    c.put_setting-in-PersonField.ensures.items)
    refl)

pub returns-in-Counted-clause-items : goal.returns-in-Counted-clause-items
returns-in-Counted-clause-items c =
    put_effect _ _ _ _ c.in-Counted.is
    (puts_2 _ _ _ _ _ _
    c.put_start-in-Counted.ensures.items
    (setting_put _ _ _ _ _ _ c.counter_number.ensures refl c.put_setting-in-Counted.ensures.items)
    refl)

pub returns-in-MemberSet-clause-items : goal.returns-in-MemberSet-clause-items
returns-in-MemberSet-clause-items c =
    put_effect _ _ _ _ c.in-MemberSet.is
    (puts_3 _ _ _ _ _ _ _ _
    c.put_start-in-MemberSet.ensures.items
    (amount_put _ _ _ _ c.seconds-in-MemberSet.ensures.value c.put_amount-in-MemberSet.ensures.items)
    c.put_byte-in-MemberSet.ensures.items
    refl)
