-- Replies, by what their calls have as a result.
use Rattle.std.specs.Prelude.{◌||◌, Option, None}
use Rattle.std.specs.Prelude.{◌≡◌, ℕ, ◌==◌, ◌⊎◌, true, false, List, [], ◌∷◌, Result, Ok, Err}
use Rattle.kom_types.specs.declared.replies.Reply.{Reply}
use Rattle.kom_types.specs.declared.replies.Reply.TheVariants as reply
use Rattle.kom_types.specs.spellings.Replies.{words_of_reply}
use Rattle.kom_types.specs.Token.{Token, Digits, Text, Open, Close, Star, Signed}
use Rattle.kom_types.specs.calls.Arguments.{Taken, Took, Departs, Malformed, then}
use Rattle.kom_records.specs.declared.fault.ReadFault.{ReadFault}
use Rattle.kom_records.specs.declared.fault.ReadFault.TheVariants as fault
use Rattle.kom_records.specs.declared.replies.ResultKind.{ResultKind}
use Rattle.kom_records.specs.declared.replies.ResultKind.TheVariants as kind
use Rattle.kom_records.specs.Fits.{IsNumber, IsText, AreFit, IsMark, IsTextStat, IsMapping}
use Rattle.kom_records.specs.Fits.{IsConference, IsUConference, IsConferenceName, IsPerson}
use Rattle.kom_records.specs.Fits.{IsMembership, IsMember, IsDynamicSession}
use Rattle.kom_records.specs.Rules.{head, number, number_told, text, array, map_taken}
use Rattle.kom_records.specs.Records.{mark, text_stat, mapping, conference, uconference}
use Rattle.kom_records.specs.Records.{conference_name, person, membership, member, dynamic_session}
use Rattle.kom_records.specs.Words.{tokens_of_words}

-- the reply is made of a value that fits
abbrev pub IsMadeOf : {X : Type 0} → (X → Reply) → (X → Type 0) → Reply → Type 0
IsMadeOf {X} make Is body = (value : X) × (Is value × (body ≡ make value))

-- the good replies to a call with such a result
abbrev pub IsResult : ResultKind → Reply → Type 0
IsResult kind.Done body = body ≡ reply.Done
IsResult kind.Number body = IsMadeOf reply.Number IsNumber body
IsResult kind.Text body = IsMadeOf reply.Text IsText body
IsResult kind.Numbers body = IsMadeOf reply.Numbers (AreFit IsNumber) body
IsResult kind.Marks body = IsMadeOf reply.Marks (AreFit IsMark) body
IsResult kind.TextStat body = IsMadeOf reply.TextStat IsTextStat body
IsResult kind.Mapping body = IsMadeOf reply.Mapping IsMapping body
IsResult kind.Conference body = IsMadeOf reply.Conference IsConference body
IsResult kind.UConference body = IsMadeOf reply.UConference IsUConference body
IsResult kind.ConferenceNames body = IsMadeOf reply.ConferenceNames (AreFit IsConferenceName) body
IsResult kind.Person body = IsMadeOf reply.Person IsPerson body
IsResult kind.Memberships body = IsMadeOf reply.Memberships (AreFit IsMembership) body
IsResult kind.Members body = IsMadeOf reply.Members (AreFit IsMember) body
IsResult kind.DynamicSessions body = IsMadeOf reply.DynamicSessions (AreFit IsDynamicSession) body

-- an error's code and its status
abbrev pub IsRefusal : Reply → Type 0
IsRefusal body =
    (code : ℕ) × ((status : ℕ)
    × ((IsNumber code × IsNumber status) × (body ≡ reply.Refused code status)))

-- the replies to such a call
abbrev pub IsReply : ResultKind → Reply → Type 0
IsReply which body = IsRefusal body ⊎ IsResult which body

-- a line's tokens spell a reference and such a reply to it
abbrev pub IsReplyLine : ResultKind → List Token → ℕ × Reply → Type 0
IsReplyLine which tokens read =
    (IsNumber read.0 × IsReply which read.1)
    × (tokens ≡ tokens_of_words (words_of_reply read.0 read.1))

-- What is read is exactly what is spelled, unless memory ran out.
abbrev pub ReadsOnly : {X : Type 0} → (X → Type 0) → Result X ReadFault → Type 0
ReadsOnly {X} IsSpelled (Ok value) =
    IsSpelled value × ((other : X) → IsSpelled other → other ≡ value)
ReadsOnly {X} IsSpelled (Err fault.Departs) = (value : X) → IsSpelled value → ⊥
ReadsOnly {X} IsSpelled (Err fault.Memory) = Unit {0}

-- how a result is read
abbrev pub result_of : ResultKind → List Token → Taken Reply
result_of kind.Done t = Took reply.Done t
result_of kind.Number t = map_taken reply.Number (number t)
result_of kind.Text t = map_taken reply.Text (text t)
result_of kind.Numbers t = map_taken reply.Numbers (array number t)
result_of kind.Marks t = map_taken reply.Marks (array mark t)
result_of kind.TextStat t = map_taken reply.TextStat (text_stat t)
result_of kind.Mapping t = map_taken reply.Mapping (mapping t)
result_of kind.Conference t = map_taken reply.Conference (conference t)
result_of kind.UConference t = map_taken reply.UConference (uconference t)
result_of kind.ConferenceNames t = map_taken reply.ConferenceNames (array conference_name t)
result_of kind.Person t = map_taken reply.Person (person t)
result_of kind.Memberships t = map_taken reply.Memberships (array membership t)
result_of kind.Members t = map_taken reply.Members (array member t)
result_of kind.DynamicSessions t = map_taken reply.DynamicSessions (array dynamic_session t)

abbrev pub refusal : List Token → Taken Reply
refusal tokens =
    then (number tokens) (λ code t.
    then (number t) (λ status. Took (reply.Refused code status)))

-- the body of a reply, by the sign before its reference
abbrev pub body_of : ResultKind → ℕ → List Token → Taken Reply
body_of which sign tokens = elim (sign == 61) [
  | true ↦ result_of which tokens
  | false ↦ elim (sign == 37) [ true ↦ refusal tokens | false ↦ Departs Malformed ]
]

-- no token is left after it
abbrev pub nothing_after : {X : Type 0} → X → List Token → Taken X
nothing_after value [] = Took value []
nothing_after value (token ∷ tokens) = Departs Malformed

abbrev pub reply_line : ResultKind → List Token → Taken (ℕ × Reply)
reply_line which tokens =
    then (head tokens) (λ begun t.
    then (body_of which begun.sign t) (λ body. nothing_after (begun.number, body)))

-- the reference of a line that begins as a good reply or a refusal
abbrev pub reference_by : ℕ → List ℕ → Option ℕ
reference_by sign digits =
    elim (sign == 61 || sign == 37) [ true ↦ number_told digits | false ↦ None ]

abbrev pub reference_of : List Token → Option ℕ
reference_of [] = None
reference_of (Digits digits ∷ tokens) = None
reference_of (Text bytes ∷ tokens) = None
reference_of (Open ∷ tokens) = None
reference_of (Close ∷ tokens) = None
reference_of (Star ∷ tokens) = None
reference_of (Signed sign digits ∷ tokens) = reference_by sign digits
