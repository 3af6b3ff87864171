-- The rules of records of one line each read exactly their spellings.
use Rattle.std.proofs.Common.{◌≡◌, ◌/◌, List, ◌++◌, refl, subst}
use Rattle.kom_types.specs.declared.aux_items.AuxRow.{AuxRow}
use Rattle.kom_types.specs.declared.conferences.ConferenceName.{ConferenceName}
use Rattle.kom_types.specs.declared.conferences.UConference.{UConference}
use Rattle.kom_types.specs.declared.memberships.Member.{Member}
use Rattle.kom_types.specs.declared.memberships.ReadRange.{ReadRange}
use Rattle.kom_types.specs.declared.sessions.DynamicSession.{DynamicSession}
use Rattle.kom_types.specs.declared.texts.LocalText.{LocalText}
use Rattle.kom_types.specs.declared.texts.Mark.{Mark}
use Rattle.kom_types.specs.spellings.AuxItems as items
use Rattle.kom_types.specs.spellings.Conferences as conferences
use Rattle.kom_types.specs.spellings.Memberships as memberships
use Rattle.kom_types.specs.spellings.Sessions as sessions
use Rattle.kom_types.specs.spellings.Texts as texts
use Rattle.kom_types.specs.spellings.Words as words
use Rattle.kom_types.specs.Token.{Token}
use Rattle.kom_types.specs.calls.Arguments.{Took}
use Rattle.kom_records.specs.Fits.{IsAuxItem, IsMark, IsLocalText, IsReadRange, IsUConference, IsConferenceName}
use Rattle.kom_records.specs.Fits.{IsMember, IsDynamicSession}
use Rattle.kom_records.specs.Records.{aux_item, mark, local_text, read_range, uconference, conference_name, member}
use Rattle.kom_records.specs.Records.{dynamic_session}
use Rattle.kom_records.specs.Words.{tokens_of_words}
use Rattle.kom_records.proofs.Spelled.{IsSpelled, on, onward, glue, took_same}
use Rattle.kom_records.proofs.Values.{number_is, byte_is, text_is}
use Rattle.kom_records.proofs.Bits.{bits_8_is, first_bits_is}
use Rattle.kom_records.proofs.Moments.{time_is}

mark_back : (of : Mark) (tail : List Token) → IsMark of →
    mark (tokens_of_words (texts.mark of) ++ tail) ≡ Took of tail
mark_back of tail fits =
    onward number_is of.text _ _ _ fits.0 (
    onward byte_is of.kind _ _ _ fits.1 (refl))

mark_from : (tokens tail : List Token) (of : Mark) → mark tokens ≡ Took of tail →
    IsMark of × (tokens ≡ tokens_of_words (texts.mark of) ++ tail)
mark_from tokens tail of is =
    on number_is tokens _ of tail is (λ v0 t0 f0 e0 r0.
    on byte_is t0 _ of tail r0 (λ v1 t1 f1 e1 r1.
    let same = took_same _ of t1 tail r1 in
    let Told : Mark → Type 0 = λ of. IsMark of × (tokens ≡ tokens_of_words (texts.mark of) ++ tail) in
    subst Told same.0 (
      (f0, f1),
      glue (words.number v0) tokens t0 _ e0 (
          glue (words.number v1) t0 t1 _ e1 (
          same.1)),
    )))

pub mark_is : IsSpelled mark texts.mark IsMark
mark_is = record { back = mark_back; forth = mark_from }

local_text_back : (of : LocalText) (tail : List Token) → IsLocalText of →
    local_text (tokens_of_words (texts.local_text of) ++ tail) ≡ Took of tail
local_text_back of tail fits =
    onward number_is of.local _ _ _ fits.0 (
    onward number_is of.text _ _ _ fits.1 (refl))

local_text_from : (tokens tail : List Token) (of : LocalText) → local_text tokens ≡ Took of tail →
    IsLocalText of × (tokens ≡ tokens_of_words (texts.local_text of) ++ tail)
local_text_from tokens tail of is =
    on number_is tokens _ of tail is (λ v0 t0 f0 e0 r0.
    on number_is t0 _ of tail r0 (λ v1 t1 f1 e1 r1.
    let same = took_same _ of t1 tail r1 in
    let Told : LocalText → Type 0 = λ of. IsLocalText of × (tokens ≡ tokens_of_words (texts.local_text of) ++ tail) in
    subst Told same.0 (
      (f0, f1),
      glue (words.number v0) tokens t0 _ e0 (
          glue (words.number v1) t0 t1 _ e1 (
          same.1)),
    )))

pub local_text_is : IsSpelled local_text texts.local_text IsLocalText
local_text_is = record { back = local_text_back; forth = local_text_from }

read_range_back : (of : ReadRange) (tail : List Token) → IsReadRange of →
    read_range (tokens_of_words (memberships.read_range of) ++ tail) ≡ Took of tail
read_range_back of tail fits =
    onward number_is of.first _ _ _ fits.0 (
    onward number_is of.last _ _ _ fits.1 (refl))

read_range_from : (tokens tail : List Token) (of : ReadRange) → read_range tokens ≡ Took of tail →
    IsReadRange of × (tokens ≡ tokens_of_words (memberships.read_range of) ++ tail)
read_range_from tokens tail of is =
    on number_is tokens _ of tail is (λ v0 t0 f0 e0 r0.
    on number_is t0 _ of tail r0 (λ v1 t1 f1 e1 r1.
    let same = took_same _ of t1 tail r1 in
    let Told : ReadRange → Type 0 =
    λ of. IsReadRange of × (tokens ≡ tokens_of_words (memberships.read_range of) ++ tail) in
    subst Told same.0 (
      (f0, f1),
      glue (words.number v0) tokens t0 _ e0 (
          glue (words.number v1) t0 t1 _ e1 (
          same.1)),
    )))

pub read_range_is : IsSpelled read_range memberships.read_range IsReadRange
read_range_is = record { back = read_range_back; forth = read_range_from }

uconference_back : (of : UConference) (tail : List Token) → IsUConference of →
    uconference (tokens_of_words (conferences.uconference of) ++ tail) ≡ Took of tail
uconference_back of tail fits =
    onward text_is of.name _ _ _ fits.0 (
    onward bits_8_is of.kind _ _ _ fits.1.0 (
    onward number_is of.highest_local _ _ _ fits.1.1.0 (
    onward number_is of.nice _ _ _ fits.1.1.1 (refl))))

uconference_from : (tokens tail : List Token) (of : UConference) → uconference tokens ≡ Took of tail →
    IsUConference of × (tokens ≡ tokens_of_words (conferences.uconference of) ++ tail)
uconference_from tokens tail of is =
    on text_is tokens _ of tail is (λ v0 t0 f0 e0 r0.
    on bits_8_is t0 _ of tail r0 (λ v1 t1 f1 e1 r1.
    on number_is t1 _ of tail r1 (λ v2 t2 f2 e2 r2.
    on number_is t2 _ of tail r2 (λ v3 t3 f3 e3 r3.
    let same = took_same _ of t3 tail r3 in
    let Told : UConference → Type 0 =
    λ of. IsUConference of × (tokens ≡ tokens_of_words (conferences.uconference of) ++ tail) in
    subst Told same.0 (
      (f0, (f1, (f2, f3))),
      glue (words.text v0) tokens t0 _ e0 (
          glue (words.bits 8 v1) t0 t1 _ e1 (
          glue (words.number v2) t1 t2 _ e2 (
          glue (words.number v3) t2 t3 _ e3 (
          same.1)))),
    )))))

pub uconference_is : IsSpelled uconference conferences.uconference IsUConference
uconference_is = record { back = uconference_back; forth = uconference_from }

conference_name_back : (of : ConferenceName) (tail : List Token) → IsConferenceName of →
    conference_name (tokens_of_words (conferences.conference_name of) ++ tail) ≡ Took of tail
conference_name_back of tail fits =
    onward text_is of.name _ _ _ fits.0 (
    onward first_bits_is of.kind _ _ _ fits.1.0 (
    onward number_is of.number _ _ _ fits.1.1 (refl)))

conference_name_from : (tokens tail : List Token) (of : ConferenceName) → conference_name tokens ≡ Took of tail →
    IsConferenceName of × (tokens ≡ tokens_of_words (conferences.conference_name of) ++ tail)
conference_name_from tokens tail of is =
    on text_is tokens _ of tail is (λ v0 t0 f0 e0 r0.
    on first_bits_is t0 _ of tail r0 (λ v1 t1 f1 e1 r1.
    on number_is t1 _ of tail r1 (λ v2 t2 f2 e2 r2.
    let same = took_same _ of t2 tail r2 in
    let Told : ConferenceName → Type 0 =
    λ of. IsConferenceName of × (tokens ≡ tokens_of_words (conferences.conference_name of) ++ tail) in
    subst Told same.0 (
      (f0, (f1, f2)),
      glue (words.text v0) tokens t0 _ e0 (
          glue (words.bits 4 (v1 / 16)) t0 t1 _ e1 (
          glue (words.number v2) t1 t2 _ e2 (
          same.1))),
    ))))

pub conference_name_is : IsSpelled conference_name conferences.conference_name IsConferenceName
conference_name_is = record { back = conference_name_back; forth = conference_name_from }

dynamic_session_back : (of : DynamicSession) (tail : List Token) → IsDynamicSession of →
    dynamic_session (tokens_of_words (sessions.dynamic_session of) ++ tail) ≡ Took of tail
dynamic_session_back of tail fits =
    onward number_is of.session _ _ _ fits.0 (
    onward number_is of.person _ _ _ fits.1.0 (
    onward number_is of.working _ _ _ fits.1.1.0 (
    onward number_is of.idle _ _ _ fits.1.1.1.0 (
    onward bits_8_is of.flags _ _ _ fits.1.1.1.1.0 (
    onward text_is of.doing _ _ _ fits.1.1.1.1.1 (refl))))))

dynamic_session_from : (tokens tail : List Token) (of : DynamicSession) → dynamic_session tokens ≡ Took of tail →
    IsDynamicSession of × (tokens ≡ tokens_of_words (sessions.dynamic_session of) ++ tail)
dynamic_session_from tokens tail of is =
    on number_is tokens _ of tail is (λ v0 t0 f0 e0 r0.
    on number_is t0 _ of tail r0 (λ v1 t1 f1 e1 r1.
    on number_is t1 _ of tail r1 (λ v2 t2 f2 e2 r2.
    on number_is t2 _ of tail r2 (λ v3 t3 f3 e3 r3.
    on bits_8_is t3 _ of tail r3 (λ v4 t4 f4 e4 r4.
    on text_is t4 _ of tail r4 (λ v5 t5 f5 e5 r5.
    let same = took_same _ of t5 tail r5 in
    let Told : DynamicSession → Type 0 =
    λ of. IsDynamicSession of × (tokens ≡ tokens_of_words (sessions.dynamic_session of) ++ tail) in
    subst Told same.0 (
      (f0, (f1, (f2, (f3, (f4, f5))))),
      glue (words.number v0) tokens t0 _ e0 (
          glue (words.number v1) t0 t1 _ e1 (
          glue (words.number v2) t1 t2 _ e2 (
          glue (words.number v3) t2 t3 _ e3 (
          glue (words.bits 8 v4) t3 t4 _ e4 (
          glue (words.text v5) t4 t5 _ e5 (
          same.1)))))),
    )))))))

pub dynamic_session_is : IsSpelled dynamic_session sessions.dynamic_session IsDynamicSession
dynamic_session_is = record { back = dynamic_session_back; forth = dynamic_session_from }

aux_item_back : (of : AuxRow) (tail : List Token) → IsAuxItem of →
    aux_item (tokens_of_words (items.aux_item of) ++ tail) ≡ Took of tail
aux_item_back of tail fits =
    onward number_is of.number _ _ _ fits.0 (
    onward number_is of.tag _ _ _ fits.1.0 (
    onward number_is of.creator _ _ _ fits.1.1.0 (
    onward time_is of.at _ _ _ fits.1.1.1.0 (
    onward bits_8_is of.flags _ _ _ fits.1.1.1.1.0 (
    onward number_is of.limit _ _ _ fits.1.1.1.1.1.0 (
    onward text_is of.content _ _ _ fits.1.1.1.1.1.1 (refl)))))))

aux_item_from : (tokens tail : List Token) (of : AuxRow) → aux_item tokens ≡ Took of tail →
    IsAuxItem of × (tokens ≡ tokens_of_words (items.aux_item of) ++ tail)
aux_item_from tokens tail of is =
    on number_is tokens _ of tail is (λ v0 t0 f0 e0 r0.
    on number_is t0 _ of tail r0 (λ v1 t1 f1 e1 r1.
    on number_is t1 _ of tail r1 (λ v2 t2 f2 e2 r2.
    on time_is t2 _ of tail r2 (λ v3 t3 f3 e3 r3.
    on bits_8_is t3 _ of tail r3 (λ v4 t4 f4 e4 r4.
    on number_is t4 _ of tail r4 (λ v5 t5 f5 e5 r5.
    on text_is t5 _ of tail r5 (λ v6 t6 f6 e6 r6.
    let same = took_same _ of t6 tail r6 in
    let Told : AuxRow → Type 0 = λ of. IsAuxItem of × (tokens ≡ tokens_of_words (items.aux_item of) ++ tail) in
    subst Told same.0 (
      (f0, (f1, (f2, (f3, (f4, (f5, f6)))))),
      glue (words.number v0) tokens t0 _ e0 (
          glue (words.number v1) t0 t1 _ e1 (
          glue (words.number v2) t1 t2 _ e2 (
          glue (words.time v3) t2 t3 _ e3 (
          glue (words.bits 8 v4) t3 t4 _ e4 (
          glue (words.number v5) t4 t5 _ e5 (
          glue (words.text v6) t5 t6 _ e6 (
          same.1))))))),
    ))))))))

pub aux_item_is : IsSpelled aux_item items.aux_item IsAuxItem
aux_item_is = record { back = aux_item_back; forth = aux_item_from }

member_back : (of : Member) (tail : List Token) → IsMember of →
    member (tokens_of_words (memberships.member of) ++ tail) ≡ Took of tail
member_back of tail fits =
    onward number_is of.person _ _ _ fits.0 (
    onward number_is of.added_by _ _ _ fits.1.0 (
    onward time_is of.added_at _ _ _ fits.1.1.0 (
    onward bits_8_is of.kind _ _ _ fits.1.1.1 (refl))))

member_from : (tokens tail : List Token) (of : Member) → member tokens ≡ Took of tail →
    IsMember of × (tokens ≡ tokens_of_words (memberships.member of) ++ tail)
member_from tokens tail of is =
    on number_is tokens _ of tail is (λ v0 t0 f0 e0 r0.
    on number_is t0 _ of tail r0 (λ v1 t1 f1 e1 r1.
    on time_is t1 _ of tail r1 (λ v2 t2 f2 e2 r2.
    on bits_8_is t2 _ of tail r2 (λ v3 t3 f3 e3 r3.
    let same = took_same _ of t3 tail r3 in
    let Told : Member → Type 0 = λ of. IsMember of × (tokens ≡ tokens_of_words (memberships.member of) ++ tail) in
    subst Told same.0 (
      (f0, (f1, (f2, f3))),
      glue (words.number v0) tokens t0 _ e0 (
          glue (words.number v1) t0 t1 _ e1 (
          glue (words.time v2) t1 t2 _ e2 (
          glue (words.bits 8 v3) t2 t3 _ e3 (
          same.1)))),
    )))))

pub member_is : IsSpelled member memberships.member IsMember
member_is = record { back = member_back; forth = member_from }
