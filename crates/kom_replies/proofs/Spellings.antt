-- The words of each spelling are words of a line.
use Rattle.std.proofs.Common.{◌≡◌, ℕ, ◌/◌, false, if◌then◌else◌, List, [], ◌∷◌, length, refl}
use Rattle.std.specs.Fmt.{decimal}
use Rattle.kom_types.specs.Times.{time_of}
use Rattle.kom_types.specs.declared.aux_items.AuxRow.{AuxRow}
use Rattle.kom_types.specs.declared.conferences.Conference.{Conference}
use Rattle.kom_types.specs.declared.conferences.ConferenceName.{ConferenceName}
use Rattle.kom_types.specs.declared.conferences.UConference.{UConference}
use Rattle.kom_types.specs.declared.memberships.Member.{Member}
use Rattle.kom_types.specs.declared.memberships.Membership.{Membership}
use Rattle.kom_types.specs.declared.memberships.RangesShown.{RangesShown}
use Rattle.kom_types.specs.declared.memberships.RangesShown.TheVariants as shown
use Rattle.kom_types.specs.declared.memberships.ReadRange.{ReadRange}
use Rattle.kom_types.specs.declared.messages.Message.{Message}
use Rattle.kom_types.specs.declared.messages.Message.TheVariants as message
use Rattle.kom_types.specs.declared.persons.Person.{Person}
use Rattle.kom_types.specs.declared.replies.Reply.{Reply}
use Rattle.kom_types.specs.declared.replies.Reply.TheVariants as reply
use Rattle.kom_types.specs.declared.server.Info.{Info}
use Rattle.kom_types.specs.declared.server.VersionInfo.{VersionInfo}
use Rattle.kom_types.specs.declared.sessions.DynamicSession.{DynamicSession}
use Rattle.kom_types.specs.declared.sessions.StaticSession.{StaticSession}
use Rattle.kom_types.specs.declared.texts.Block.{Block}
use Rattle.kom_types.specs.declared.texts.Block.TheVariants as block
use Rattle.kom_types.specs.declared.texts.LocalText.{LocalText}
use Rattle.kom_types.specs.declared.texts.Mapping.{Mapping}
use Rattle.kom_types.specs.declared.texts.Mark.{Mark}
use Rattle.kom_types.specs.declared.texts.MiscInfo.{MiscInfo}
use Rattle.kom_types.specs.declared.texts.MiscInfo.TheVariants as misc
use Rattle.kom_types.specs.declared.texts.TextStat.{TextStat}
use Rattle.kom_types.specs.spellings.AuxItems.{aux_item, aux_items}
use Rattle.kom_types.specs.spellings.Conferences.{conference, conference_name, uconference}
use Rattle.kom_types.specs.spellings.Memberships.{member, membership, ranges_shown, read_range}
use Rattle.kom_types.specs.spellings.Messages.{message_words, words_of_message}
use Rattle.kom_types.specs.spellings.Persons.{person}
use Rattle.kom_types.specs.spellings.Replies.{result_words, words_of_reply}
use Rattle.kom_types.specs.spellings.Server.{info, version_info}
use Rattle.kom_types.specs.spellings.Sessions.{dynamic_session, static_session}
use Rattle.kom_types.specs.spellings.Texts.{block_words, local_text, mapping, mark, misc_info, text_stat}
use Rattle.kom_types.specs.spellings.Words.{Words, number, bits, text, array, array_count, time}
use Rattle.kom_replies.proofs.LineWords.{is_plain, is_string, AreWords, AreWords-flat_map, ◌⊕◌}
use Rattle.kom_replies.proofs.Stops.{is_stop, IsPlain-decimal, IsPlain-bit_string}

AreWords-none : AreWords []
AreWords-none = record { each = tt }

-- a word of one byte
AreWords-sign : (byte : ℕ) → is_stop byte ≡ false → AreWords ((byte ∷ []) ∷ [])
AreWords-sign byte plain = record { each = (is_plain (plain, tt), tt) }

-- a sign and a number, which are one word
AreWords-signed : (sign n : ℕ) → is_stop sign ≡ false → AreWords ((sign ∷ decimal n) ∷ [])
AreWords-signed sign n plain = record { each = (is_plain (plain, IsPlain-decimal n), tt) }

AreWords-number : (n : ℕ) → AreWords (number n)
AreWords-number n = record { each = (is_plain (IsPlain-decimal n), tt) }

AreWords-bits : (width n : ℕ) → AreWords (bits width n)
AreWords-bits width n = record { each = (is_plain (IsPlain-bit_string n width), tt) }

AreWords-text : (bytes : List ℕ) → AreWords (text bytes)
AreWords-text bytes = record { each = (is_string bytes refl, tt) }

AreWords-array : {X : Type 0} (element : X → Words) → ((x : X) → AreWords (element x)) → (values : List X) →
    AreWords (array element values)
AreWords-array element each [] = AreWords-number 0 ⊕ AreWords-sign 42 refl
AreWords-array element each (value ∷ values) =
    AreWords-number (length (value ∷ values)) ⊕ AreWords-sign 123 refl
    ⊕ AreWords-flat_map element each (value ∷ values) ⊕ AreWords-sign 125 refl

AreWords-array_count : (count : ℕ) → AreWords (array_count count)
AreWords-array_count count = AreWords-number count ⊕ AreWords-sign 42 refl

AreWords-time : (moment : ℕ) → AreWords (time moment)
AreWords-time moment = let parts = time_of moment in
    AreWords-number parts.seconds ⊕ AreWords-number parts.minutes ⊕ AreWords-number parts.hours
    ⊕ AreWords-number parts.day ⊕ AreWords-number parts.month ⊕ AreWords-number parts.year
    ⊕ AreWords-number parts.weekday ⊕ AreWords-number parts.yearday
    ⊕ AreWords-number (if parts.dst then 1 else 0)

AreWords-aux_item : (row : AuxRow) → AreWords (aux_item row)
AreWords-aux_item row =
    AreWords-number row.number ⊕ AreWords-number row.tag ⊕ AreWords-number row.creator ⊕ AreWords-time row.at
    ⊕ AreWords-bits 8 row.flags ⊕ AreWords-number row.limit ⊕ AreWords-text row.content

AreWords-aux_items : (rows : List AuxRow) → AreWords (aux_items rows)
AreWords-aux_items = AreWords-array aux_item AreWords-aux_item

AreWords-conference : (of : Conference) → AreWords (conference of)
AreWords-conference of =
    AreWords-text of.name ⊕ AreWords-bits 8 of.kind ⊕ AreWords-time of.created ⊕ AreWords-time of.last_written
    ⊕ AreWords-number of.creator ⊕ AreWords-number of.presentation ⊕ AreWords-number of.supervisor
    ⊕ AreWords-number of.submitters ⊕ AreWords-number of.super_conference ⊕ AreWords-number of.motd
    ⊕ AreWords-number of.nice ⊕ AreWords-number of.keep_commented ⊕ AreWords-number of.members
    ⊕ AreWords-number of.first_local ⊕ AreWords-number of.texts ⊕ AreWords-number of.expire
    ⊕ AreWords-aux_items of.aux_items

AreWords-uconference : (of : UConference) → AreWords (uconference of)
AreWords-uconference of =
    AreWords-text of.name ⊕ AreWords-bits 8 of.kind ⊕ AreWords-number of.highest_local ⊕ AreWords-number of.nice

AreWords-conference_name : (of : ConferenceName) → AreWords (conference_name of)
AreWords-conference_name of =
    AreWords-text of.name ⊕ AreWords-bits 4 (of.kind / 16) ⊕ AreWords-number of.number

AreWords-person : (of : Person) → AreWords (person of)
AreWords-person of =
    AreWords-text of.user ⊕ AreWords-bits 16 of.privileges ⊕ AreWords-bits 8 of.flags ⊕ AreWords-time of.last_login
    ⊕ AreWords-number of.user_area ⊕ AreWords-number of.time_present ⊕ AreWords-number of.sessions
    ⊕ AreWords-number of.created_lines ⊕ AreWords-number of.created_bytes ⊕ AreWords-number of.read_texts
    ⊕ AreWords-number of.text_fetches ⊕ AreWords-number of.created_persons ⊕ AreWords-number of.created_conferences
    ⊕ AreWords-number of.first_created_local ⊕ AreWords-number of.created_texts ⊕ AreWords-number of.marks
    ⊕ AreWords-number of.conferences

AreWords-read_range : (of : ReadRange) → AreWords (read_range of)
AreWords-read_range of = AreWords-number of.first ⊕ AreWords-number of.last

AreWords-ranges_shown : (of : RangesShown) → AreWords (ranges_shown of)
AreWords-ranges_shown (shown.Count count) = AreWords-array_count count
AreWords-ranges_shown (shown.All ranges) = AreWords-array read_range AreWords-read_range ranges

AreWords-membership : (of : Membership) → AreWords (membership of)
AreWords-membership of =
    AreWords-number of.position ⊕ AreWords-time of.last_time_read ⊕ AreWords-number of.conference
    ⊕ AreWords-number of.priority ⊕ AreWords-ranges_shown of.ranges ⊕ AreWords-number of.added_by
    ⊕ AreWords-time of.added_at ⊕ AreWords-bits 8 of.kind

AreWords-member : (of : Member) → AreWords (member of)
AreWords-member of =
    AreWords-number of.person ⊕ AreWords-number of.added_by ⊕ AreWords-time of.added_at ⊕ AreWords-bits 8 of.kind

AreWords-misc_info : (of : MiscInfo) → AreWords (misc_info of)
AreWords-misc_info (misc.Recipient conference) = AreWords-number 0 ⊕ AreWords-number conference
AreWords-misc_info (misc.CopyRecipient conference) = AreWords-number 1 ⊕ AreWords-number conference
AreWords-misc_info (misc.CommentTo text) = AreWords-number 2 ⊕ AreWords-number text
AreWords-misc_info (misc.CommentIn text) = AreWords-number 3 ⊕ AreWords-number text
AreWords-misc_info (misc.FootnoteTo text) = AreWords-number 4 ⊕ AreWords-number text
AreWords-misc_info (misc.FootnoteIn text) = AreWords-number 5 ⊕ AreWords-number text
AreWords-misc_info (misc.Local number_there) = AreWords-number 6 ⊕ AreWords-number number_there
AreWords-misc_info (misc.Received moment) = AreWords-number 7 ⊕ AreWords-time moment
AreWords-misc_info (misc.SentBy person) = AreWords-number 8 ⊕ AreWords-number person
AreWords-misc_info (misc.SentAt moment) = AreWords-number 9 ⊕ AreWords-time moment
AreWords-misc_info (misc.BlindRecipient conference) = AreWords-number 15 ⊕ AreWords-number conference

AreWords-text_stat : (of : TextStat) → AreWords (text_stat of)
AreWords-text_stat of =
    AreWords-time of.created ⊕ AreWords-number of.author ⊕ AreWords-number of.lines ⊕ AreWords-number of.chars
    ⊕ AreWords-number of.marks ⊕ AreWords-array misc_info AreWords-misc_info of.misc_infos
    ⊕ AreWords-aux_items of.aux_items

AreWords-mark : (of : Mark) → AreWords (mark of)
AreWords-mark of = AreWords-number of.text ⊕ AreWords-number of.kind

AreWords-local_text : (of : LocalText) → AreWords (local_text of)
AreWords-local_text of = AreWords-number of.local ⊕ AreWords-number of.text

AreWords-numbers : (values : List ℕ) → AreWords (array number values)
AreWords-numbers = AreWords-array number AreWords-number

AreWords-block : (of : Block) → AreWords (block_words of)
AreWords-block (block.Sparse pairs) = AreWords-number 0 ⊕ AreWords-array local_text AreWords-local_text pairs
AreWords-block (block.Dense first texts) = AreWords-number 1 ⊕ AreWords-number first ⊕ AreWords-numbers texts

AreWords-mapping : (of : Mapping) → AreWords (mapping of)
AreWords-mapping of =
    AreWords-number of.begin ⊕ AreWords-number of.end ⊕ AreWords-number (if of.later_texts_exist then 1 else 0)
    ⊕ AreWords-block of.block

AreWords-dynamic_session : (of : DynamicSession) → AreWords (dynamic_session of)
AreWords-dynamic_session of =
    AreWords-number of.session ⊕ AreWords-number of.person ⊕ AreWords-number of.working ⊕ AreWords-number of.idle
    ⊕ AreWords-bits 8 of.flags ⊕ AreWords-text of.doing

AreWords-static_session : (of : StaticSession) → AreWords (static_session of)
AreWords-static_session of =
    AreWords-text of.user ⊕ AreWords-text of.host ⊕ AreWords-text of.ident_user ⊕ AreWords-time of.connected

AreWords-version_info : (of : VersionInfo) → AreWords (version_info of)
AreWords-version_info of = AreWords-number of.protocol ⊕ AreWords-text of.software ⊕ AreWords-text of.version

AreWords-info : (of : Info) → AreWords (info of)
AreWords-info of =
    AreWords-number of.version ⊕ AreWords-number of.conference_presentations ⊕ AreWords-number of.person_presentations
    ⊕ AreWords-number of.motds ⊕ AreWords-number of.news ⊕ AreWords-number of.motd_of_lyskom
    ⊕ AreWords-aux_items of.aux_items

AreWords-result : (body : Reply) → AreWords (result_words body)
AreWords-result reply.Done = AreWords-none
AreWords-result (reply.Refused code status) = AreWords-none
AreWords-result (reply.Number value) = AreWords-number value
AreWords-result (reply.Time moment) = AreWords-time moment
AreWords-result (reply.Text bytes) = AreWords-text bytes
AreWords-result (reply.Numbers values) = AreWords-numbers values
AreWords-result (reply.Marks marks) = AreWords-array mark AreWords-mark marks
AreWords-result (reply.TextStat stat) = AreWords-text_stat stat
AreWords-result (reply.Mapping of) = AreWords-mapping of
AreWords-result (reply.Conference of) = AreWords-conference of
AreWords-result (reply.UConference of) = AreWords-uconference of
AreWords-result (reply.ConferenceNames names) = AreWords-array conference_name AreWords-conference_name names
AreWords-result (reply.Person of) = AreWords-person of
AreWords-result (reply.Membership of) = AreWords-membership of
AreWords-result (reply.Memberships all) = AreWords-array membership AreWords-membership all
AreWords-result (reply.Members all) = AreWords-array member AreWords-member all
AreWords-result (reply.DynamicSessions all) = AreWords-array dynamic_session AreWords-dynamic_session all
AreWords-result (reply.StaticSession of) = AreWords-static_session of
AreWords-result (reply.VersionInfo of) = AreWords-version_info of
AreWords-result (reply.Info of) = AreWords-info of

pub AreWords-reply : (reference : ℕ) (body : Reply) → AreWords (words_of_reply reference body)
AreWords-reply reference (reply.Refused code status) =
    AreWords-signed 37 reference refl ⊕ AreWords-number code ⊕ AreWords-number status
AreWords-reply reference other = AreWords-signed 61 reference refl ⊕ AreWords-result other

-- a message of arguments that are words of a line
AreWords-arguments : (count which : ℕ) {arguments : Words} → AreWords arguments →
    AreWords (message_words count which arguments)
AreWords-arguments count which each = AreWords-signed 58 count refl ⊕ AreWords-number which ⊕ each

pub AreWords-message : (message : Message) → AreWords (words_of_message message)
AreWords-message (message.NewName of) =
    AreWords-arguments 3 5 (AreWords-number of.conference ⊕ AreWords-text of.old_name ⊕ AreWords-text of.new_name)
AreWords-message message.SyncDatabase = AreWords-arguments 0 7 AreWords-none
AreWords-message (message.LeaveConference conference) = AreWords-arguments 1 8 (AreWords-number conference)
AreWords-message (message.Login person session) =
    AreWords-arguments 2 9 (AreWords-number person ⊕ AreWords-number session)
AreWords-message (message.SendMessage of) =
    AreWords-arguments 3 12 (AreWords-number of.recipient ⊕ AreWords-number of.sender ⊕ AreWords-text of.text)
AreWords-message (message.Logout person session) =
    AreWords-arguments 2 13 (AreWords-number person ⊕ AreWords-number session)
AreWords-message (message.DeletedText which stat) =
    AreWords-arguments 2 14 (AreWords-number which ⊕ AreWords-text_stat stat)
AreWords-message (message.NewText which stat) =
    AreWords-arguments 2 15 (AreWords-number which ⊕ AreWords-text_stat stat)
AreWords-message (message.NewRecipient which conference kind) =
    AreWords-arguments 3 16 (AreWords-number which ⊕ AreWords-number conference ⊕ AreWords-number kind)
AreWords-message (message.SubRecipient which conference kind) =
    AreWords-arguments 3 17 (AreWords-number which ⊕ AreWords-number conference ⊕ AreWords-number kind)
AreWords-message (message.NewMembership person conference) =
    AreWords-arguments 2 18 (AreWords-number person ⊕ AreWords-number conference)
AreWords-message (message.NewUserArea person old_text new_text) =
    AreWords-arguments 3 19 (AreWords-number person ⊕ AreWords-number old_text ⊕ AreWords-number new_text)
AreWords-message (message.NewPresentation conference old_text new_text) =
    AreWords-arguments 3 20 (AreWords-number conference ⊕ AreWords-number old_text ⊕ AreWords-number new_text)
AreWords-message (message.NewMotd conference old_text new_text) =
    AreWords-arguments 3 21 (AreWords-number conference ⊕ AreWords-number old_text ⊕ AreWords-number new_text)
AreWords-message (message.TextAuxChanged of) =
    AreWords-arguments 3 22
    (AreWords-number of.text ⊕ AreWords-aux_items of.deleted ⊕ AreWords-aux_items of.added)
