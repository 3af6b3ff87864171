-- Each word of a printed reply or message is one token.
use Rattle.std.proofs.Common.{◌≡◌, ℕ, zero, suc, ◌/◌, Bool, true, false, List, ◌∷◌, refl, sym}
use Rattle.std.proofs.Common.{subst}
use Rattle.std.proofs.Common.{arith, inl, inr}
use Rattle.std.proofs.Common.{◌^◌, ◌<◌}
use Rattle.std.specs.Fmt.{decimal}
use Rattle.kom_types.specs.Token.{Token}
use Rattle.kom_types.specs.declared.aux_items.AuxRow.{AuxRow}
use Rattle.kom_types.specs.declared.conferences.Conference.{Conference}
use Rattle.kom_types.specs.declared.conferences.ConferenceName.{ConferenceName}
use Rattle.kom_types.specs.declared.conferences.UConference.{UConference}
use Rattle.kom_types.specs.declared.items.Item.TheVariants as item
use Rattle.kom_types.specs.declared.memberships.Member.{Member}
use Rattle.kom_types.specs.declared.memberships.Membership.{Membership}
use Rattle.kom_types.specs.declared.memberships.RangesShown.{RangesShown}
use Rattle.kom_types.specs.declared.memberships.RangesShown.TheVariants as shown
use Rattle.kom_types.specs.declared.memberships.ReadRange.{ReadRange}
use Rattle.kom_types.specs.declared.messages.Message.{Message}
use Rattle.kom_types.specs.declared.messages.Message.TheVariants as message
use Rattle.kom_types.specs.declared.persons.Person.{Person}
use Rattle.kom_types.specs.declared.replies.Reply.{Reply}
use Rattle.kom_types.specs.declared.replies.Reply.TheVariants as reply
use Rattle.kom_types.specs.declared.sessions.DynamicSession.{DynamicSession}
use Rattle.kom_types.specs.declared.side.Side.TheVariants as side
use Rattle.kom_types.specs.declared.texts.Block.{Block}
use Rattle.kom_types.specs.declared.texts.Block.TheVariants as pairs
use Rattle.kom_types.specs.declared.texts.LocalText.{LocalText}
use Rattle.kom_types.specs.declared.texts.Mapping.{Mapping}
use Rattle.kom_types.specs.declared.texts.Mark.{Mark}
use Rattle.kom_types.specs.declared.texts.MiscInfo.{MiscInfo}
use Rattle.kom_types.specs.declared.texts.MiscInfo.TheVariants as misc
use Rattle.kom_types.specs.declared.texts.TextStat.{TextStat}
use Rattle.kom_types.specs.Grammar.{Whole, line_form}
use Rattle.kom_types.specs.Printing.{print_of, line_of}
use Rattle.kom_types.specs.spellings.AuxItems as items
use Rattle.kom_types.specs.spellings.Conferences as conferences
use Rattle.kom_types.specs.spellings.Memberships as memberships
use Rattle.kom_types.specs.spellings.Messages.{words_of_message, message_words}
use Rattle.kom_types.specs.spellings.Persons as persons
use Rattle.kom_types.specs.spellings.Replies.{words_of_reply, result_words}
use Rattle.kom_types.specs.spellings.Sessions as sessions
use Rattle.kom_types.specs.spellings.Texts as texts
use Rattle.kom_types.specs.spellings.Words as words
use Rattle.kom_types.specs.spellings.Words.{Words}
use Rattle.kom_records.specs.declared.replies.ResultKind.{ResultKind}
use Rattle.kom_records.specs.declared.replies.ResultKind.TheVariants as kind
use Rattle.kom_records.specs.Fits.{IsNumber, IsText, IsMoment, AreFit, IsAuxItem, IsMark, IsLocalText, IsReadRange}
use Rattle.kom_records.specs.Fits.{IsMiscInfo, IsTextStat, IsBlock, IsMapping, IsConference, IsUConference}
use Rattle.kom_records.specs.Fits.{IsConferenceName, IsPerson, AreRangesShown, IsMembership, IsMember, IsDynamicSession}
use Rattle.kom_records.specs.Messages.{IsMessage, IsMessageLine}
use Rattle.kom_records.specs.Replies.{IsResult, IsReply, IsReplyLine, IsMadeOf}
use Rattle.kom_records.specs.Printed.{IsSplit}
use Rattle.kom_records.specs.Words.{tokens_of_words}
use Rattle.kom_records.proofs.Moments.{parts_of, parts_fit, words_of_moment}
use Rattle.kom_records.proofs.PrintedLines.{AreOne, ◌⊕◌, one_number, one_bits, one_text, one_array, one_star, one_good}
use Rattle.kom_records.proofs.PrintedLines.{one_refusal, one_message, line_form-words}

one_8 : (n : ℕ) → AreOne (words.bits 8 n)
one_8 n = one_bits n 8 (omega arith) (omega arith)

one_16 : (n : ℕ) → AreOne (words.bits 16 n)
one_16 n = one_bits n 16 (omega arith) (omega arith)

one_4 : (n : ℕ) → AreOne (words.bits 4 n)
one_4 n = one_bits n 4 (omega arith) (omega arith)

one_flag : (value : Bool) → AreOne (words.flag value)
one_flag true = one_number 1 (omega arith)
one_flag false = one_number 0 (omega arith)

one_time : (moment : ℕ) → IsMoment moment → AreOne (words.time moment)
one_time moment within =
    let of = parts_of moment in
    let fits = parts_fit moment within in
    subst AreOne (sym (words_of_moment moment within))
    (one_number of.seconds fits.0 ⊕ one_number of.minutes fits.1.0 ⊕ one_number of.hours fits.1.1.0
    ⊕ one_number of.day fits.1.1.1.0 ⊕ one_number of.month fits.1.1.1.1.0 ⊕ one_number of.year fits.1.1.1.1.1.0
    ⊕ one_number of.weekday fits.1.1.1.1.1.1.0 ⊕ one_number of.yearday fits.1.1.1.1.1.1.1.0
    ⊕ one_number of.summer fits.1.1.1.1.1.1.1.1)

one_byte : (n : ℕ) → n < 2 ^ 8 → AreOne (words.number n)
one_byte n within = one_number n (omega arith)

one_mark : (of : Mark) → IsMark of → AreOne (texts.mark of)
one_mark of fits =
    one_number of.text fits.0 ⊕ one_byte of.kind fits.1

one_local_text : (of : LocalText) → IsLocalText of → AreOne (texts.local_text of)
one_local_text of fits =
    one_number of.local fits.0 ⊕ one_number of.text fits.1

one_read_range : (of : ReadRange) → IsReadRange of → AreOne (memberships.read_range of)
one_read_range of fits =
    one_number of.first fits.0 ⊕ one_number of.last fits.1

one_uconference : (of : UConference) → IsUConference of → AreOne (conferences.uconference of)
one_uconference of fits =
    one_text of.name fits.0 ⊕ one_8 of.kind ⊕ one_number of.highest_local fits.1.1.0 ⊕ one_number of.nice fits.1.1.1

one_conference_name : (of : ConferenceName) → IsConferenceName of → AreOne (conferences.conference_name of)
one_conference_name of fits =
    one_text of.name fits.0 ⊕ one_4 (of.kind / 16) ⊕ one_number of.number fits.1.1

one_dynamic_session : (of : DynamicSession) → IsDynamicSession of → AreOne (sessions.dynamic_session of)
one_dynamic_session of fits =
    one_number of.session fits.0 ⊕ one_number of.person fits.1.0 ⊕ one_number of.working fits.1.1.0
    ⊕ one_number of.idle fits.1.1.1.0 ⊕ one_8 of.flags ⊕ one_text of.doing fits.1.1.1.1.1

one_aux_item : (of : AuxRow) → IsAuxItem of → AreOne (items.aux_item of)
one_aux_item of fits =
    one_number of.number fits.0 ⊕ one_number of.tag fits.1.0 ⊕ one_number of.creator fits.1.1.0
    ⊕ one_time of.at fits.1.1.1.0 ⊕ one_8 of.flags ⊕ one_number of.limit fits.1.1.1.1.1.0
    ⊕ one_text of.content fits.1.1.1.1.1.1

one_member : (of : Member) → IsMember of → AreOne (memberships.member of)
one_member of fits =
    one_number of.person fits.0 ⊕ one_number of.added_by fits.1.0 ⊕ one_time of.added_at fits.1.1.0 ⊕ one_8 of.kind

one_aux_items : (all : List AuxRow) → AreFit IsAuxItem all → AreOne (items.aux_items all)
one_aux_items = one_array items.aux_item IsAuxItem one_aux_item

one_numbers : (all : List ℕ) → AreFit IsNumber all → AreOne (words.array words.number all)
one_numbers = one_array words.number IsNumber one_number

one_conference : (of : Conference) → IsConference of → AreOne (conferences.conference of)
one_conference of fits =
    one_text of.name fits.0 ⊕ one_8 of.kind ⊕ one_time of.created fits.1.1.0
    ⊕ one_time of.last_written fits.1.1.1.0 ⊕ one_number of.creator fits.1.1.1.1.0
    ⊕ one_number of.presentation fits.1.1.1.1.1.0 ⊕ one_number of.supervisor fits.1.1.1.1.1.1.0
    ⊕ one_number of.submitters fits.1.1.1.1.1.1.1.0 ⊕ one_number of.super_conference fits.1.1.1.1.1.1.1.1.0
    ⊕ one_number of.motd fits.1.1.1.1.1.1.1.1.1.0 ⊕ one_number of.nice fits.1.1.1.1.1.1.1.1.1.1.0
    ⊕ one_number of.keep_commented fits.1.1.1.1.1.1.1.1.1.1.1.0
    ⊕ one_number of.members fits.1.1.1.1.1.1.1.1.1.1.1.1.0
    ⊕ one_number of.first_local fits.1.1.1.1.1.1.1.1.1.1.1.1.1.0
    ⊕ one_number of.texts fits.1.1.1.1.1.1.1.1.1.1.1.1.1.1.0
    ⊕ one_number of.expire fits.1.1.1.1.1.1.1.1.1.1.1.1.1.1.1.0
    ⊕ one_aux_items of.aux_items fits.1.1.1.1.1.1.1.1.1.1.1.1.1.1.1.1

one_person : (of : Person) → IsPerson of → AreOne (persons.person of)
one_person of fits =
    one_text of.user fits.0 ⊕ one_16 of.privileges ⊕ one_8 of.flags ⊕ one_time of.last_login fits.1.1.1.0
    ⊕ one_number of.user_area fits.1.1.1.1.0 ⊕ one_number of.time_present fits.1.1.1.1.1.0
    ⊕ one_number of.sessions fits.1.1.1.1.1.1.0 ⊕ one_number of.created_lines fits.1.1.1.1.1.1.1.0
    ⊕ one_number of.created_bytes fits.1.1.1.1.1.1.1.1.0 ⊕ one_number of.read_texts fits.1.1.1.1.1.1.1.1.1.0
    ⊕ one_number of.text_fetches fits.1.1.1.1.1.1.1.1.1.1.0
    ⊕ one_number of.created_persons fits.1.1.1.1.1.1.1.1.1.1.1.0
    ⊕ one_number of.created_conferences fits.1.1.1.1.1.1.1.1.1.1.1.1.0
    ⊕ one_number of.first_created_local fits.1.1.1.1.1.1.1.1.1.1.1.1.1.0
    ⊕ one_number of.created_texts fits.1.1.1.1.1.1.1.1.1.1.1.1.1.1.0
    ⊕ one_number of.marks fits.1.1.1.1.1.1.1.1.1.1.1.1.1.1.1.0
    ⊕ one_number of.conferences fits.1.1.1.1.1.1.1.1.1.1.1.1.1.1.1.1

one_misc_info : (of : MiscInfo) → IsMiscInfo of → AreOne (texts.misc_info of)
one_misc_info (misc.Recipient value) fits = one_number 0 (omega arith) ⊕ one_number value fits
one_misc_info (misc.CopyRecipient value) fits = one_number 1 (omega arith) ⊕ one_number value fits
one_misc_info (misc.CommentTo value) fits = one_number 2 (omega arith) ⊕ one_number value fits
one_misc_info (misc.CommentIn value) fits = one_number 3 (omega arith) ⊕ one_number value fits
one_misc_info (misc.FootnoteTo value) fits = one_number 4 (omega arith) ⊕ one_number value fits
one_misc_info (misc.FootnoteIn value) fits = one_number 5 (omega arith) ⊕ one_number value fits
one_misc_info (misc.Local value) fits = one_number 6 (omega arith) ⊕ one_number value fits
one_misc_info (misc.Received value) fits = one_number 7 (omega arith) ⊕ one_time value fits
one_misc_info (misc.SentBy value) fits = one_number 8 (omega arith) ⊕ one_number value fits
one_misc_info (misc.SentAt value) fits = one_number 9 (omega arith) ⊕ one_time value fits
one_misc_info (misc.BlindRecipient value) fits = one_number 15 (omega arith) ⊕ one_number value fits

one_misc_infos : (all : List MiscInfo) → AreFit IsMiscInfo all → AreOne (words.array texts.misc_info all)
one_misc_infos = one_array texts.misc_info IsMiscInfo one_misc_info

one_text_stat : (of : TextStat) → IsTextStat of → AreOne (texts.text_stat of)
one_text_stat of fits =
    one_time of.created fits.0 ⊕ one_number of.author fits.1.0 ⊕ one_number of.lines fits.1.1.0
    ⊕ one_number of.chars fits.1.1.1.0 ⊕ one_number of.marks fits.1.1.1.1.0
    ⊕ one_misc_infos of.misc_infos fits.1.1.1.1.1.0 ⊕ one_aux_items of.aux_items fits.1.1.1.1.1.1

one_block : (of : Block) → IsBlock of → AreOne (texts.block_words of)
one_block (pairs.Sparse locals) fits =
    one_number 0 (omega arith) ⊕ one_array texts.local_text IsLocalText one_local_text locals fits
one_block (pairs.Dense first those) fits =
    one_number 1 (omega arith) ⊕ one_number first fits.0 ⊕ one_numbers those fits.1

one_mapping : (of : Mapping) → IsMapping of → AreOne (texts.mapping of)
one_mapping of fits =
    one_number of.begin fits.0 ⊕ one_number of.end fits.1.0 ⊕ one_flag of.later_texts_exist
    ⊕ one_block of.block fits.1.1

one_ranges : (of : RangesShown) → AreRangesShown of → AreOne (memberships.ranges_shown of)
one_ranges (shown.Count zero) fits = absurd fits
one_ranges (shown.Count (suc more)) fits = one_number (suc more) fits ⊕ one_star
one_ranges (shown.All ranges) fits = one_array memberships.read_range IsReadRange one_read_range ranges fits

one_membership : (of : Membership) → IsMembership of → AreOne (memberships.membership of)
one_membership of fits =
    one_number of.position fits.0 ⊕ one_time of.last_time_read fits.1.0 ⊕ one_number of.conference fits.1.1.0
    ⊕ one_byte of.priority fits.1.1.1.0 ⊕ one_ranges of.ranges fits.1.1.1.1.0
    ⊕ one_number of.added_by fits.1.1.1.1.1.0 ⊕ one_time of.added_at fits.1.1.1.1.1.1.0 ⊕ one_8 of.kind

-- the words of a good reply
one_made : {X : Type 0} (make : X → Reply) (Is : X → Type 0) (spells : X → Words) →
    ((value : X) → Is value → AreOne (spells value)) → ((value : X) → result_words (make value) ≡ spells value) →
    ((reference : ℕ) (value : X) → words_of_reply reference (make value) ≡ (61 ∷ decimal reference) ∷ spells value) →
    (reference : ℕ) (body : Reply) → IsNumber reference → IsMadeOf make Is body → AreOne (words_of_reply reference body)
one_made make Is spells each spelled told reference body within is =
    subst (λ (body : Reply). AreOne (words_of_reply reference body)) (sym is.1.1)
    (subst AreOne (sym (told reference is.0)) (one_good reference within ⊕ each is.0 is.1.0))

one_result : (which : ResultKind) (reference : ℕ) (body : Reply) → IsNumber reference → IsResult which body →
    AreOne (words_of_reply reference body)
one_result kind.Done reference body within is =
    subst (λ (body : Reply). AreOne (words_of_reply reference body)) (sym is) (one_good reference within)
one_result kind.Number reference body within is =
    one_made reply.Number IsNumber words.number
    one_number (λ _. refl) (λ _ _. refl) reference body within is
one_result kind.Text reference body within is =
    one_made reply.Text IsText words.text
    one_text (λ _. refl) (λ _ _. refl) reference body within is
one_result kind.Numbers reference body within is =
    one_made reply.Numbers (AreFit IsNumber) (words.array words.number)
    one_numbers (λ _. refl) (λ _ _. refl) reference body within is
one_result kind.Marks reference body within is =
    one_made reply.Marks (AreFit IsMark) (words.array texts.mark)
    (one_array texts.mark IsMark one_mark) (λ _. refl) (λ _ _. refl) reference body within is
one_result kind.TextStat reference body within is =
    one_made reply.TextStat IsTextStat texts.text_stat
    one_text_stat (λ _. refl) (λ _ _. refl) reference body within is
one_result kind.Mapping reference body within is =
    one_made reply.Mapping IsMapping texts.mapping
    one_mapping (λ _. refl) (λ _ _. refl) reference body within is
one_result kind.Conference reference body within is =
    one_made reply.Conference IsConference conferences.conference
    one_conference (λ _. refl) (λ _ _. refl) reference body within is
one_result kind.UConference reference body within is =
    one_made reply.UConference IsUConference conferences.uconference
    one_uconference (λ _. refl) (λ _ _. refl) reference body within is
one_result kind.ConferenceNames reference body within is =
    one_made reply.ConferenceNames (AreFit IsConferenceName) conferences.conference_names
    (one_array conferences.conference_name IsConferenceName one_conference_name) (λ _. refl)
    (λ _ _. refl) reference body within is
one_result kind.Person reference body within is =
    one_made reply.Person IsPerson persons.person
    one_person (λ _. refl) (λ _ _. refl) reference body within is
one_result kind.Memberships reference body within is =
    one_made reply.Memberships (AreFit IsMembership) (words.array memberships.membership)
    (one_array memberships.membership IsMembership one_membership) (λ _. refl) (λ _ _. refl) reference body within is
one_result kind.Members reference body within is =
    one_made reply.Members (AreFit IsMember) (words.array memberships.member)
    (one_array memberships.member IsMember one_member) (λ _. refl) (λ _ _. refl) reference body within is
one_result kind.DynamicSessions reference body within is =
    one_made reply.DynamicSessions (AreFit IsDynamicSession) (words.array sessions.dynamic_session)
    (one_array sessions.dynamic_session IsDynamicSession one_dynamic_session) (λ _. refl)
    (λ _ _. refl) reference body within is

one_reply : (which : ResultKind) (reference : ℕ) (body : Reply) → IsNumber reference → IsReply which body →
    AreOne (words_of_reply reference body)
one_reply which reference body within (inl refused) =
    subst (λ (body : Reply). AreOne (words_of_reply reference body)) (sym refused.1.1.1)
    (one_refusal reference within ⊕ (one_number refused.0 refused.1.1.0.0 ⊕ one_number refused.1.0 refused.1.1.0.1))
one_reply which reference body within (inr good) = one_result which reference body within good

one_words : (count which : ℕ) (arguments : Words) → IsNumber count → IsNumber which → AreOne arguments →
    AreOne (message_words count which arguments)
one_words count which arguments count_is which_is are =
    one_message count count_is ⊕ (one_number which which_is ⊕ are)

one_message_of : (of : Message) → IsMessage of → AreOne (words_of_message of)
one_message_of (message.NewName of) fits =
    one_words 3 5 _ (omega arith) (omega arith)
    (one_number of.conference fits.0 ⊕ one_text of.old_name fits.1.0 ⊕ one_text of.new_name fits.1.1)
one_message_of message.SyncDatabase fits = absurd fits
one_message_of (message.LeaveConference conference) fits =
    one_words 1 8 _ (omega arith) (omega arith)
    (one_number conference fits)
one_message_of (message.Login a b) fits =
    one_words 2 9 _ (omega arith) (omega arith)
    (one_number a fits.0 ⊕ one_number b fits.1)
one_message_of (message.Logout a b) fits =
    one_words 2 13 _ (omega arith) (omega arith)
    (one_number a fits.0 ⊕ one_number b fits.1)
one_message_of (message.NewMembership a b) fits =
    one_words 2 18 _ (omega arith) (omega arith)
    (one_number a fits.0 ⊕ one_number b fits.1)
one_message_of (message.SendMessage of) fits =
    one_words 3 12 _ (omega arith) (omega arith)
    (one_number of.recipient fits.0 ⊕ one_number of.sender fits.1.0 ⊕ one_text of.text fits.1.1)
one_message_of (message.DeletedText a b) fits =
    one_words 2 14 _ (omega arith) (omega arith)
    (one_number a fits.0 ⊕ one_text_stat b fits.1)
one_message_of (message.NewText a b) fits =
    one_words 2 15 _ (omega arith) (omega arith)
    (one_number a fits.0 ⊕ one_text_stat b fits.1)
one_message_of (message.NewRecipient a b c) fits =
    one_words 3 16 _ (omega arith) (omega arith)
    (one_number a fits.0 ⊕ one_number b fits.1.0 ⊕ one_number c fits.1.1)
one_message_of (message.SubRecipient a b c) fits =
    one_words 3 17 _ (omega arith) (omega arith)
    (one_number a fits.0 ⊕ one_number b fits.1.0 ⊕ one_number c fits.1.1)
one_message_of (message.NewUserArea a b c) fits = absurd fits
one_message_of (message.NewPresentation a b c) fits = absurd fits
one_message_of (message.NewMotd a b c) fits = absurd fits
one_message_of (message.TextAuxChanged of) fits =
    one_words 3 22 _ (omega arith) (omega arith)
    (one_number of.text fits.0 ⊕ one_aux_items of.deleted fits.1.0 ⊕ one_aux_items of.added fits.1.1)

-- each has a word
record HasWord (all : Words) : Type 0 where
  first : List ℕ
  rest : Words
  is : all ≡ first ∷ rest

reply_word : (reference : ℕ) (body : Reply) → HasWord (words_of_reply reference body)
reply_word reference (reply.Refused code status) = record { first = _; rest = _; is = refl }
reply_word reference other = record { first = _; rest = _; is = refl }

message_word : (of : Message) → HasWord (words_of_message of)
message_word (message.NewName of) = record { first = _; rest = _; is = refl }
message_word message.SyncDatabase = record { first = _; rest = _; is = refl }
message_word (message.LeaveConference a) = record { first = _; rest = _; is = refl }
message_word (message.Login a b) = record { first = _; rest = _; is = refl }
message_word (message.SendMessage of) = record { first = _; rest = _; is = refl }
message_word (message.Logout a b) = record { first = _; rest = _; is = refl }
message_word (message.DeletedText a b) = record { first = _; rest = _; is = refl }
message_word (message.NewText a b) = record { first = _; rest = _; is = refl }
message_word (message.NewRecipient a b c) = record { first = _; rest = _; is = refl }
message_word (message.SubRecipient a b c) = record { first = _; rest = _; is = refl }
message_word (message.NewMembership a b) = record { first = _; rest = _; is = refl }
message_word (message.NewUserArea a b c) = record { first = _; rest = _; is = refl }
message_word (message.NewPresentation a b c) = record { first = _; rest = _; is = refl }
message_word (message.NewMotd a b c) = record { first = _; rest = _; is = refl }
message_word (message.TextAuxChanged of) = record { first = _; rest = _; is = refl }

-- the line of some words
split_words : (first : List ℕ) (others all : Words) (Holds : List Token → Type 0) → all ≡ first ∷ others → AreOne all →
    Holds (tokens_of_words all) → IsSplit (line_of all) Holds
split_words first others all Holds is are holds = (
  tokens_of_words all,
  (
    subst (λ (all : Words). line_form side.Server (line_of all) ≡ Whole (tokens_of_words all))
        (sym is) (line_form-words first others (subst AreOne is are).each),
    holds,
  ),
)

pub printed_reply : (which : ResultKind) (reference : ℕ) (body : Reply) → IsNumber reference → IsReply which body →
    IsSplit (print_of (item.Reply reference body)) (λ tokens. IsReplyLine which tokens (reference, body))
unfolding print_of
printed_reply which reference body within is =
    let word = reply_word reference body in
    split_words word.first word.rest (words_of_reply reference body)
    (λ tokens. IsReplyLine which tokens (reference, body))
    word.is (one_reply which reference body within is) ((within, is), refl)

pub printed_message : (of : Message) → IsMessage of →
    IsSplit (print_of (item.Message of)) (λ tokens. IsMessageLine tokens of)
unfolding print_of
printed_message of is =
    let word = message_word of in
    split_words word.first word.rest (words_of_message of) (λ tokens. IsMessageLine tokens of) word.is
    (one_message_of of is) (is, refl)
