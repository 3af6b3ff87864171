-- What the messages of a server change of what is unread.
use Rattle.std.specs.Prelude.{ℕ, fold, if◌then◌else◌}
use Rattle.kom_types.specs.declared.messages.Message.{Message}
use Rattle.kom_types.specs.declared.messages.Message.TheVariants as message
use Rattle.kom_types.specs.declared.texts.TextStat.{TextStat}
use Rattle.kom_reader.specs.declared.rows.Row.{Row}
use Rattle.kom_reader.specs.declared.recipients.Part.{Part}
use Rattle.kom_reader.specs.Links.{parts_of}
use Rattle.kom_reader.specs.Reading.{Reading, is_member, with_row, without_conference, without_text}
use Rattle.kom_reader.specs.Reading.{without_recipient}

abbrev pub row_of : ℕ → Part → Row
row_of text part = record { conference = part.conference; local = part.local; text = text }

-- a text stands in one conference more; it is unread there where the person is a member
abbrev pub with_part : ℕ → Reading → Part → Reading
with_part text reading part = if is_member part.conference reading.places
    then record reading { rows = with_row (row_of text part) reading.rows }
    else reading

-- a text is unread in each conference of the person in which it stands
abbrev pub with_unread : ℕ → TextStat → Reading → Reading
with_unread text stat reading = fold (with_part text) reading (parts_of stat.misc_infos)

-- A new text is unread, and one that went, lost a recipient or stood in a conference that was left
-- no more. Other messages tell nothing of what is unread, or too little.
abbrev pub after_message : Message → Reading → Reading
after_message (message.NewText text stat) reading = with_unread text stat reading
after_message (message.DeletedText text stat) reading =
    record reading { rows = without_text text reading.rows }
after_message (message.SubRecipient text conference kind) reading =
    record reading { rows = without_recipient text conference reading.rows }
after_message (message.LeaveConference conference) reading = without_conference conference reading
after_message _ reading = reading
