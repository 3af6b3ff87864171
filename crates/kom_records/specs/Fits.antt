-- Which values a server's line can tell: numbers and strings within the protocol's bounds.
use Rattle.std.specs.Prelude.{◌≡◌, ℕ, zero, suc, ◌%◌, ◌^◌, ◌<◌, ◌≤◌, List, length}
use Rattle.std.specs.List.{All}
use Rattle.kom_types.specs.declared.limits.TheConstants.{LAST_MOMENT}
use Rattle.kom_types.specs.declared.aux_items.AuxRow.{AuxRow}
use Rattle.kom_types.specs.declared.conferences.Conference.{Conference}
use Rattle.kom_types.specs.declared.conferences.ConferenceName.{ConferenceName}
use Rattle.kom_types.specs.declared.conferences.UConference.{UConference}
use Rattle.kom_types.specs.declared.memberships.Member.{Member}
use Rattle.kom_types.specs.declared.memberships.Membership.{Membership}
use Rattle.kom_types.specs.declared.memberships.RangesShown.{RangesShown}
use Rattle.kom_types.specs.declared.memberships.RangesShown.TheVariants as shown
use Rattle.kom_types.specs.declared.memberships.ReadRange.{ReadRange}
use Rattle.kom_types.specs.declared.persons.Person.{Person}
use Rattle.kom_types.specs.declared.sessions.DynamicSession.{DynamicSession}
use Rattle.kom_types.specs.declared.texts.Block.{Block}
use Rattle.kom_types.specs.declared.texts.Block.TheVariants as block
use Rattle.kom_types.specs.declared.texts.LocalText.{LocalText}
use Rattle.kom_types.specs.declared.texts.Mapping.{Mapping}
use Rattle.kom_types.specs.declared.texts.Mark.{Mark}
use Rattle.kom_types.specs.declared.texts.MiscInfo.{MiscInfo}
use Rattle.kom_types.specs.declared.texts.MiscInfo.TheVariants as misc
use Rattle.kom_types.specs.declared.texts.TextStat.{TextStat}

abbrev pub IsNumber : ℕ → Type 0
IsNumber value = value < 2 ^ 32

abbrev pub IsByte : ℕ → Type 0
IsByte value = value < 2 ^ 8

abbrev pub IsMoment : ℕ → Type 0
IsMoment moment = moment ≤ LAST_MOMENT

abbrev pub IsText : List ℕ → Type 0
IsText bytes = length bytes < 2 ^ 32

-- not too many, of which each fits
abbrev pub AreFit : {X : Type 0} → (X → Type 0) → List X → Type 0
AreFit Is values = IsNumber (length values) × All Is values

abbrev pub IsAuxItem : AuxRow → Type 0
IsAuxItem of =
    IsNumber of.number × (IsNumber of.tag × (IsNumber of.creator × (IsMoment of.at
    × (IsByte of.flags × (IsNumber of.limit × IsText of.content)))))

abbrev pub IsMark : Mark → Type 0
IsMark of = IsNumber of.text × IsByte of.kind

abbrev pub IsLocalText : LocalText → Type 0
IsLocalText of = IsNumber of.local × IsNumber of.text

abbrev pub IsReadRange : ReadRange → Type 0
IsReadRange of = IsNumber of.first × IsNumber of.last

abbrev pub IsMiscInfo : MiscInfo → Type 0
IsMiscInfo (misc.Recipient conference) = IsNumber conference
IsMiscInfo (misc.CopyRecipient conference) = IsNumber conference
IsMiscInfo (misc.CommentTo text) = IsNumber text
IsMiscInfo (misc.CommentIn text) = IsNumber text
IsMiscInfo (misc.FootnoteTo text) = IsNumber text
IsMiscInfo (misc.FootnoteIn text) = IsNumber text
IsMiscInfo (misc.Local number_there) = IsNumber number_there
IsMiscInfo (misc.Received moment) = IsMoment moment
IsMiscInfo (misc.SentBy person) = IsNumber person
IsMiscInfo (misc.SentAt moment) = IsMoment moment
IsMiscInfo (misc.BlindRecipient conference) = IsNumber conference

abbrev pub IsTextStat : TextStat → Type 0
IsTextStat of =
    IsMoment of.created × (IsNumber of.author × (IsNumber of.lines × (IsNumber of.chars
    × (IsNumber of.marks × (AreFit IsMiscInfo of.misc_infos × AreFit IsAuxItem of.aux_items)))))

abbrev pub IsBlock : Block → Type 0
IsBlock (block.Sparse pairs) = AreFit IsLocalText pairs
IsBlock (block.Dense first texts) = IsNumber first × AreFit IsNumber texts

abbrev pub IsMapping : Mapping → Type 0
IsMapping of = IsNumber of.begin × (IsNumber of.end × IsBlock of.block)

abbrev pub IsConference : Conference → Type 0
IsConference of =
    IsText of.name × (IsByte of.kind × (IsMoment of.created × (IsMoment of.last_written
    × (IsNumber of.creator × (IsNumber of.presentation × (IsNumber of.supervisor
    × (IsNumber of.submitters × (IsNumber of.super_conference × (IsNumber of.motd
    × (IsNumber of.nice × (IsNumber of.keep_commented × (IsNumber of.members
    × (IsNumber of.first_local × (IsNumber of.texts × (IsNumber of.expire
    × AreFit IsAuxItem of.aux_items)))))))))))))))

abbrev pub IsUConference : UConference → Type 0
IsUConference of =
    IsText of.name × (IsByte of.kind × (IsNumber of.highest_local × IsNumber of.nice))

-- of the type the first four bits alone
abbrev pub IsConferenceName : ConferenceName → Type 0
IsConferenceName of =
    IsText of.name × ((IsByte of.kind × (of.kind % 16 ≡ 0)) × IsNumber of.number)

abbrev pub IsPerson : Person → Type 0
IsPerson of =
    IsText of.user × (of.privileges < 2 ^ 16 × (IsByte of.flags × (IsMoment of.last_login
    × (IsNumber of.user_area × (IsNumber of.time_present × (IsNumber of.sessions
    × (IsNumber of.created_lines × (IsNumber of.created_bytes × (IsNumber of.read_texts
    × (IsNumber of.text_fetches × (IsNumber of.created_persons × (IsNumber of.created_conferences
    × (IsNumber of.first_created_local × (IsNumber of.created_texts × (IsNumber of.marks
    × IsNumber of.conferences)))))))))))))))

-- no ranges are told as such, and not as none
abbrev pub AreRangesShown : RangesShown → Type 0
AreRangesShown (shown.Count zero) = ⊥
AreRangesShown (shown.Count (suc more)) = IsNumber (suc more)
AreRangesShown (shown.All ranges) = AreFit IsReadRange ranges

abbrev pub IsMembership : Membership → Type 0
IsMembership of =
    IsNumber of.position × (IsMoment of.last_time_read × (IsNumber of.conference
    × (IsByte of.priority × (AreRangesShown of.ranges × (IsNumber of.added_by
    × (IsMoment of.added_at × IsByte of.kind))))))

abbrev pub IsMember : Member → Type 0
IsMember of =
    IsNumber of.person × (IsNumber of.added_by × (IsMoment of.added_at × IsByte of.kind))

abbrev pub IsDynamicSession : DynamicSession → Type 0
IsDynamicSession of =
    IsNumber of.session × (IsNumber of.person × (IsNumber of.working × (IsNumber of.idle
    × (IsByte of.flags × IsText of.doing))))
