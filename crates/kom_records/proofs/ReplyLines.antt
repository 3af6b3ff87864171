-- A reply is read exactly where a line spells it.
use Rattle.std.proofs.Common.{◌≡◌, ℕ, true, List, [], ◌∷◌, ◌++◌, refl, sym, ap, subst, ◌∙◌}
use Rattle.std.proofs.Common.{inl, inr, Some, None, Result, Ok, Err}
use Rattle.std.specs.Prelude.{Option}
use Rattle.std.specs.Fmt.{decimal}
use Rattle.std.proofs.lemmas.List.{append-nil}
use Rattle.kom_types.specs.declared.replies.Reply.{Reply}
use Rattle.kom_types.specs.declared.replies.Reply.TheVariants as reply
use Rattle.kom_types.specs.spellings.Conferences as conferences
use Rattle.kom_types.specs.spellings.Memberships as memberships
use Rattle.kom_types.specs.spellings.Replies.{words_of_reply, result_words, good_words}
use Rattle.kom_types.specs.spellings.Sessions as sessions
use Rattle.kom_types.specs.spellings.Texts as texts
use Rattle.kom_types.specs.spellings.Words as words
use Rattle.kom_types.specs.spellings.Words.{Words}
use Rattle.kom_types.specs.Token.{Token, Digits, Text, Open, Close, Star, Signed}
use Rattle.kom_types.specs.calls.Arguments.{Taken, Took, then}
use Rattle.kom_records.specs.declared.fault.ReadFault.{ReadFault}
use Rattle.kom_records.specs.declared.fault.ReadFault.TheVariants as fault
use Rattle.kom_records.specs.declared.replies.ResultKind.{ResultKind}
use Rattle.kom_records.specs.declared.replies.ResultKind.TheVariants as kind
use Rattle.kom_records.specs.declared.tokens.Head.{Head}
use Rattle.kom_records.specs.Fits.{IsNumber, IsMark, IsConferenceName, IsMembership, IsMember, IsDynamicSession, AreFit}
use Rattle.kom_records.specs.Records.{mark, conference_name, membership, member, dynamic_session}
use Rattle.kom_records.specs.Replies.{IsMadeOf, IsResult, IsReply, IsReplyLine, ReadsOnly, result_of, refusal}
use Rattle.kom_records.specs.Replies.{reference_of, body_of, nothing_after, reply_line}
use Rattle.kom_records.specs.Rules.{head, head_of, number, number_told, array, map_taken}
use Rattle.kom_records.specs.Telling.{ReadsAs}
use Rattle.kom_records.specs.Words.{token_of_word, tokens_of_words}
use Rattle.kom_records.proofs.Spelled.{IsSpelled, on, onward, glue, took_same, made_is, passed, branch, yes}
use Rattle.kom_records.proofs.Spelled.{not, departs_not}
use Rattle.kom_records.proofs.Values.{number_is, text_is, told_decimal, told_is}
use Rattle.kom_records.proofs.LongArrays.{array_is}
use Rattle.kom_records.proofs.SmallRecords.{mark_is, uconference_is, conference_name_is, member_is, dynamic_session_is}
use Rattle.kom_records.proofs.LongRecords.{conference_is, person_is}
use Rattle.kom_records.proofs.TextRecords.{text_stat_is, mapping_is}
use Rattle.kom_records.proofs.MemberRecords.{membership_is}
use Rattle.kom_records.proofs.WordTokens.{word_good, word_refusal}

numbers_is : IsSpelled (array number) (words.array words.number) (AreFit IsNumber)
numbers_is = array_is number words.number IsNumber number_is

marks_is : IsSpelled (array mark) (words.array texts.mark) (AreFit IsMark)
marks_is = array_is mark texts.mark IsMark mark_is

conference_names_is : IsSpelled (array conference_name) conferences.conference_names (AreFit IsConferenceName)
conference_names_is = array_is conference_name conferences.conference_name IsConferenceName conference_name_is

memberships_is : IsSpelled (array membership) (words.array memberships.membership) (AreFit IsMembership)
memberships_is = array_is membership memberships.membership IsMembership membership_is

members_is : IsSpelled (array member) (words.array memberships.member) (AreFit IsMember)
members_is = array_is member memberships.member IsMember member_is

dynamic_sessions_is : IsSpelled (array dynamic_session) (words.array sessions.dynamic_session) (AreFit IsDynamicSession)
dynamic_sessions_is = array_is dynamic_session sessions.dynamic_session IsDynamicSession dynamic_session_is

-- a result is read exactly where it is spelled, and a good reply has it
record IsGood (reads : List Token → Taken Reply) (Is : Reply → Type 0) : Type 0 where
  rule : IsSpelled reads result_words Is
  good : (reference : ℕ) (body : Reply) → Is body →
      words_of_reply reference body ≡ good_words reference (result_words body)

module _ {X : Type 0} {reads : List Token → Taken X} {spells : X → Words} {Is : X → Type 0}
    (rule : IsSpelled reads spells Is) (make : X → Reply) (spelled : (value : X) → result_words (make value)
    ≡ spells value)
    (told : (reference : ℕ) (value : X) →
    words_of_reply reference (make value) ≡ good_words reference (result_words (make value))) where
  made_back : (body : Reply) (tail : List Token) → IsMadeOf make Is body →
      map_taken make (reads (tokens_of_words (result_words body) ++ tail)) ≡ Took body tail
  made_back body tail is =
      ap (λ of. map_taken make (reads (tokens_of_words (result_words of) ++ tail))) is.1.1
      ∙ ap (λ (all : Words). map_taken make (reads (tokens_of_words all ++ tail))) (spelled is.0)
      ∙ onward rule is.0 tail (λ value. Took (make value)) _ is.1.0 (ap (λ of. Took of tail) (sym is.1.1))

  made_from : (tokens tail : List Token) (body : Reply) → map_taken make (reads tokens) ≡ Took body tail →
      IsMadeOf make Is body × (tokens ≡ tokens_of_words (result_words body) ++ tail)
  made_from tokens tail body is =
      let found = made_is rule make tokens tail body is in (
        (found.0, (found.1.0, sym found.1.2)),
        found.1.1 ∙ ap (λ (all : Words). tokens_of_words all ++ tail) (sym (spelled found.0))
            ∙ ap (λ of. tokens_of_words (result_words of) ++ tail) found.1.2,
      )

  made_good : IsGood (λ tokens. map_taken make (reads tokens)) (IsMadeOf make Is)
  made_good = record {
    rule = record { back = made_back; forth = made_from };
    good = λ reference body is.
        ap (words_of_reply reference) is.1.1 ∙ told reference is.0
        ∙ ap (λ of. good_words reference (result_words of)) (sym is.1.1);
  }

done_good : IsGood (result_of kind.Done) (IsResult kind.Done)
done_good = record {
  rule = record {
    back = λ body tail is.
        ap (λ of. Took reply.Done (tokens_of_words (result_words of) ++ tail)) is ∙ ap (λ of. Took of tail) (sym is);
    forth = λ tokens tail body is.
        let same = took_same reply.Done body tokens tail is in
        (sym same.0, same.1 ∙ ap (λ of. tokens_of_words (result_words of) ++ tail) same.0);
  };
  good = λ reference body is.
      ap (words_of_reply reference) is ∙ ap (λ of. good_words reference (result_words of)) (sym is);
}

is_good : (which : ResultKind) → IsGood (result_of which) (IsResult which)
is_good kind.Done = done_good
is_good kind.Number = made_good number_is reply.Number (λ value. refl) (λ reference value. refl)
is_good kind.Text = made_good text_is reply.Text (λ value. refl) (λ reference value. refl)
is_good kind.Numbers = made_good numbers_is reply.Numbers (λ value. refl) (λ reference value. refl)
is_good kind.Marks = made_good marks_is reply.Marks (λ value. refl) (λ reference value. refl)
is_good kind.TextStat = made_good text_stat_is reply.TextStat (λ value. refl) (λ reference value. refl)
is_good kind.Mapping = made_good mapping_is reply.Mapping (λ value. refl) (λ reference value. refl)
is_good kind.Conference = made_good conference_is reply.Conference (λ value. refl) (λ reference value. refl)
is_good kind.UConference = made_good uconference_is reply.UConference (λ value. refl) (λ reference value. refl)
is_good kind.ConferenceNames = made_good conference_names_is reply.ConferenceNames (λ value. refl)
    (λ reference value. refl)
is_good kind.Person = made_good person_is reply.Person (λ value. refl) (λ reference value. refl)
is_good kind.Memberships = made_good memberships_is reply.Memberships (λ value. refl) (λ reference value. refl)
is_good kind.Members = made_good members_is reply.Members (λ value. refl) (λ reference value. refl)
is_good kind.DynamicSessions = made_good dynamic_sessions_is reply.DynamicSessions (λ value. refl)
    (λ reference value. refl)

-- the head of a line
head_by : (sign : ℕ) (digits : List ℕ) (tokens tail : List Token) (begun : Head) (told : Option ℕ) →
    number_told digits ≡ told → head_of sign told tokens ≡ Took begun tail →
    IsNumber begun.number × (Signed sign digits ∷ tokens ≡ Signed begun.sign (decimal begun.number) ∷ tail)
head_by sign digits tokens tail begun (Some n) told is =
    let same = took_same (record { sign = sign; number = n }) begun tokens tail is in
    let found = told_is digits n told in
    let run : digits ≡ decimal n = sym found.1 in
    subst (λ (of : Head). IsNumber of.number × (Signed sign digits ∷ tokens
    ≡ Signed of.sign (decimal of.number) ∷ tail))
    same.0 (found.0, rw (run, same.1) refl)
head_by sign digits tokens tail begun None told is = cc

pub head_from : (tokens tail : List Token) (begun : Head) → head tokens ≡ Took begun tail →
    IsNumber begun.number × (tokens ≡ Signed begun.sign (decimal begun.number) ∷ tail)
head_from [] tail begun is = cc
head_from (Digits digits ∷ tokens) tail begun is = cc
head_from (Text bytes ∷ tokens) tail begun is = cc
head_from (Open ∷ tokens) tail begun is = cc
head_from (Close ∷ tokens) tail begun is = cc
head_from (Star ∷ tokens) tail begun is = cc
head_from (Signed sign digits ∷ tokens) tail begun is =
    head_by sign digits tokens tail begun (number_told digits) refl is

pub head_back : (sign n : ℕ) (tail : List Token) → IsNumber n →
    head (Signed sign (decimal n) ∷ tail) ≡ Took (record { sign = sign; number = n }) tail
head_back sign n tail within = ap (λ told. head_of sign told tail) (told_decimal n within)

-- no token is left
pub ended_from : {X : Type 0} (one other : X) (tokens tail : List Token) → nothing_after one tokens ≡ Took other tail →
    (tokens ≡ []) × (one ≡ other)
ended_from one other [] tail is = let same = took_same one other [] tail is in (refl, same.0)
ended_from one other (token ∷ tokens) tail is = cc

-- a refusal
refusal_back : (code status : ℕ) (tail : List Token) → IsNumber code → IsNumber status →
    refusal (tokens_of_words (words.number code ++ words.number status) ++ tail) ≡ Took (reply.Refused code status) tail
refusal_back code status tail one two = onward number_is code _ _ _ one (onward number_is status tail _ _ two refl)

-- what follows the head
record IsBody (which : ResultKind) (sign reference : ℕ) (body : Reply) (tokens tail : List Token) : Type 0 where
  is : IsReply which body
  same : Signed sign (decimal reference) ∷ tokens ≡ tokens_of_words (words_of_reply reference body) ++ tail

good_from : (which : ResultKind) (sign reference : ℕ) (body : Reply) (tokens tail : List Token) → IsNumber reference →
    sign ≡ 61 → result_of which tokens ≡ Took body tail → IsBody which sign reference body tokens tail
good_from which sign reference body tokens tail within sign_is is =
    let known = is_good which in
    let found = known.rule.forth tokens tail body is in
    record {
      is = inr found.0;
      same = ap (λ s. Signed s (decimal reference) ∷ tokens) sign_is
          ∙ ap (λ token. token ∷ tokens) (sym (word_good reference within))
          ∙ ap (λ t. token_of_word (61 ∷ decimal reference) ∷ t) found.1
          ∙ ap (λ (all : Words). tokens_of_words all ++ tail) (sym (known.good reference body found.0));
    }

refused_from : (which : ResultKind) (sign reference : ℕ) (body : Reply) (tokens tail : List Token) →
    IsNumber reference → sign ≡ 37 → refusal tokens ≡ Took body tail → IsBody which sign reference body tokens tail
refused_from which sign reference body tokens tail within sign_is is =
    on number_is tokens _ body tail is (λ code t0 f0 e0 r0.
    on number_is t0 _ body tail r0 (λ status t1 f1 e1 r1.
    let same = took_same (reply.Refused code status) body t1 tail r1 in
    subst (λ (of : Reply). IsBody which sign reference of tokens tail) same.0
    (record {
      is = inl (code, (status, ((f0, f1), refl)));
      same = ap (λ s. Signed s (decimal reference) ∷ tokens) sign_is
          ∙ ap (λ token. token ∷ tokens) (sym (word_refusal reference within))
          ∙ ap (λ t. token_of_word (37 ∷ decimal reference) ∷ t)
          (glue (words.number code) tokens t0 _ e0 (glue (words.number status) t0 t1 tail e1 same.1));
    })))

body_from : (which : ResultKind) (sign reference : ℕ) (body : Reply) (tokens tail : List Token) → IsNumber reference →
    body_of which sign tokens ≡ Took body tail → IsBody which sign reference body tokens tail
body_from which sign reference body tokens tail within is =
    elim (branch sign 61 _ _ _ is) [
      | yes good taken ↦ good_from which sign reference body tokens tail within good taken
      | not r0 ↦ elim (branch sign 37 _ _ _ r0) [
        | yes refused taken ↦ refused_from which sign reference body tokens tail within refused taken
        | not r1 ↦ absurd (departs_not r1)
      ]
    ]

reply_from : (which : ResultKind) (tokens tail : List Token) (read : ℕ × Reply) →
    reply_line which tokens ≡ Took read tail → IsReplyLine which tokens read
reply_from which tokens tail read is =
    let one = passed (head tokens) _ read tail is in
    let begun = one.value in
    let told = head_from tokens one.mid begun one.first in
    let two = passed (body_of which begun.sign one.mid) _ read tail one.rest in
    let last = ended_from (begun.number, two.value) read two.mid tail two.rest in
    let found = body_from which begun.sign begun.number two.value one.mid two.mid told.0 two.first in
    let words = words_of_reply begun.number two.value in
    subst (λ (read : ℕ × Reply). IsReplyLine which tokens read) last.1 (
      (told.0, found.is),
      told.1 ∙ found.same ∙ ap (λ t. tokens_of_words words ++ t) last.0 ∙ append-nil (tokens_of_words words),
    )

-- a reply that is spelled
line_back : (which : ResultKind) (reference : ℕ) (body : Reply) (sign : ℕ) (rest : List Token) → IsNumber reference →
    body_of which sign rest ≡ Took body [] →
    reply_line which (Signed sign (decimal reference) ∷ rest) ≡ Took (reference, body) []
line_back which reference body sign rest within is =
    ap (λ taken. then taken (λ begun t. then (body_of which begun.sign t) (λ body. nothing_after (begun.number, body))))
    (head_back sign reference rest within)
    ∙ ap (λ taken. then taken (λ body. nothing_after (reference, body))) is

reply_back : (which : ResultKind) (reference : ℕ) (body : Reply) → IsNumber reference → IsReply which body →
    reply_line which (tokens_of_words (words_of_reply reference body)) ≡ Took (reference, body) []
reply_back which reference body within (inl refused) =
    let code = refused.0 in
    let status = refused.1.0 in
    let spelled : Words = words.number code ++ words.number status in
    let rest = tokens_of_words spelled in
    subst (λ (body : Reply). reply_line which (tokens_of_words (words_of_reply reference body))
    ≡ Took (reference, body) [])
    (sym refused.1.1.1)
    (ap (λ token. reply_line which (token ∷ rest)) (word_refusal reference within)
    ∙ line_back which reference (reply.Refused code status) 37 rest within
    (ap refusal (sym (append-nil rest)) ∙ refusal_back code status [] refused.1.1.0.0 refused.1.1.0.1))
reply_back which reference body within (inr good) =
    let known = is_good which in
    let rest = tokens_of_words (result_words body) in
    ap (λ (all : Words). reply_line which (tokens_of_words all)) (known.good reference body good)
    ∙ ap (λ token. reply_line which (token ∷ rest)) (word_good reference within)
    ∙ line_back which reference body 61 rest within
    (ap (result_of which) (sym (append-nil rest)) ∙ known.rule.back body [] good)

-- what a reader that tells a rule's answer says of all values that are spelled
pub reads_only : {X : Type 0} (taken : Taken X) (Is : X → Type 0) (result : Result X ReadFault) (rest : List Token) →
    ((value : X) (tail : List Token) → taken ≡ Took value tail → Is value) →
    ((value : X) → Is value → taken ≡ Took value []) → ReadsAs true taken result rest → ReadsOnly Is result
reads_only taken Is (Ok value) rest forth back told =
    (forth value rest told, λ other is. (took_same other value [] rest (sym (back other is) ∙ told)).0)
reads_only taken Is (Err fault.Departs) rest forth back told = λ value is. departs_not (sym told ∙ back value is)
reads_only taken Is (Err fault.Memory) rest forth back told = tt

pub reply_only : (which : ResultKind) (tokens rest : List Token) (result : Result (ℕ × Reply) ReadFault) →
    ReadsAs true (reply_line which tokens) result rest → ReadsOnly (IsReplyLine which tokens) result
reply_only which tokens rest result told =
    reads_only (reply_line which tokens) (IsReplyLine which tokens) result rest
    (λ read tail is. reply_from which tokens tail read is)
    (λ read is. ap (reply_line which) is.1 ∙ reply_back which read.0 read.1 is.0.0 is.0.1) told

-- the reference of a line that spells a reply
good_found : (reference : ℕ) (rest : List Token) → IsNumber reference →
    reference_of (token_of_word (61 ∷ decimal reference) ∷ rest) ≡ Some reference
good_found reference rest within =
    ap (λ token. reference_of (token ∷ rest)) (word_good reference within) ∙ told_decimal reference within

refusal_found : (reference : ℕ) (rest : List Token) → IsNumber reference →
    reference_of (token_of_word (37 ∷ decimal reference) ∷ rest) ≡ Some reference
refusal_found reference rest within =
    ap (λ token. reference_of (token ∷ rest)) (word_refusal reference within) ∙ told_decimal reference within

pub reference_found : (which : ResultKind) (tokens : List Token) (reference : ℕ) (body : Reply) →
    IsReplyLine which tokens (reference, body) → reference_of tokens ≡ Some reference
reference_found which tokens reference body is =
    elim is.0.1 [
      | inl refused ↦ ap reference_of is.1
          ∙ ap (λ body. reference_of (tokens_of_words (words_of_reply reference body))) refused.1.1.1
          ∙ refusal_found reference _ is.0.0
      | inr good ↦ ap reference_of is.1
          ∙ ap (λ all. reference_of (tokens_of_words all)) ((is_good which).good reference body good)
          ∙ good_found reference _ is.0.0
    ]
