-- What replies tell. One of another kind tells nothing, as one that did not come.
use Rattle.std.specs.Prelude.{ℕ, ◌==◌, Bool, false, is_some, Option, Some, None}
use Rattle.kom_types.specs.declared.conferences.Conference.{Conference}
use Rattle.kom_types.specs.declared.persons.Person.{Person}
use Rattle.kom_types.specs.declared.texts.TextStat.{TextStat}
use Rattle.kom_types.specs.declared.errors.TheConstants.{OUT_OF_MEMORY, UNDEFINED_CONFERENCE}
use Rattle.kom_types.specs.declared.replies.Reply.{Reply}
use Rattle.kom_types.specs.declared.replies.Reply.TheVariants as reply

abbrev pub number_in : Option Reply → Option ℕ
number_in (Some (reply.Number number)) = Some number
number_in _ = None

abbrev pub stat_in : Option Reply → Option TextStat
stat_in (Some (reply.TextStat stat)) = Some stat
stat_in _ = None

abbrev pub conference_in : Option Reply → Option Conference
conference_in (Some (reply.Conference conference)) = Some conference
conference_in _ = None

abbrev pub person_in : Option Reply → Option Person
person_in (Some (reply.Person person)) = Some person
person_in _ = None

-- the code and the status of a refusal
abbrev pub refusal_in : Option Reply → Option (ℕ × ℕ)
refusal_in (Some (reply.Refused code status)) = Some (code, status)
refusal_in _ = None

abbrev pub is_refused : Option Reply → Bool
is_refused answer = is_some (refusal_in answer)

-- it is a refusal of this code
abbrev pub has_code : ℕ → Option (ℕ × ℕ) → Bool
has_code code None = false
has_code code (Some (told, status)) = told == code

-- memory ran out for the call
abbrev pub is_short : Option Reply → Bool
is_short answer = has_code OUT_OF_MEMORY (refusal_in answer)

-- there is no further conference
abbrev pub is_last_conference : Option Reply → Bool
is_last_conference answer = has_code UNDEFINED_CONFERENCE (refusal_in answer)
