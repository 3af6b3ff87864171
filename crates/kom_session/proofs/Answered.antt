-- What one answer more of a desk is to the log of its answers.
use Rattle.std.proofs.Common.{◌≡◌, ◌≢◌, ℕ, Bool, true, false, List, [], ◌∷◌, ◌++◌, ◌+◌, Option, Some, None}
use Rattle.std.proofs.Common.{Result, Ok, Err, refl, ◌∙◌, ap, append-nil, append_assoc, length}
use Rattle.std.proofs.lemmas.List.{length-append}
use Rattle.std.specs.Prelude.{⊤, filter, if◌then◌else◌}
use Rattle.std.proofs.lemmas.Grind.{flat_map-append}
use Rattle.std.proofs.lemmas.List.Elements.{filter-append}
use Rattle.kom_links.specs.declared.deeds.Deed.{Deed}
use Rattle.kom_types.specs.declared.answers.NotMade.{NotMade}
use Rattle.kom_links.specs.Answers.{Answer, concerns, fault_in, faults_of, first_of, first_fault_of, is_ask, asks_in}
use Rattle.kom_links.specs.Answers.{flush_made, drained_empty, IsFlushedAfter, IsSettledAfter, sends, HasRefused}
use Rattle.kom_session.specs.declared.phase.Phase.{Phase}
use Rattle.kom_session.specs.declared.phase.Phase.TheVariants as phase
use Rattle.kom_session.specs.Known.{note_fault}
use Rattle.kom_session.specs.Left.{IsSending}
use Rattle.kom_session.specs.Serving.{IsSince}

-- the first fault, after one answer more that concerns the session
abbrev pub with_answer : Option NotMade → Result ⊤ NotMade → Option NotMade
with_answer cause (Ok done) = cause
with_answer cause (Err fault) = note_fault cause fault

-- ---- the first fault

faults_push : (session : ℕ) (answers : List Answer) (deed : Deed) (answer : Result ⊤ NotMade)
    → faults_of session (answers ++ (deed, answer) ∷ [])
    ≡ faults_of session answers ++ (if concerns session deed then fault_in answer else [])
faults_push session answers deed answer =
    flat_map-append (λ (one : Answer). if concerns session one.0 then fault_in one.1 else []) answers
    ((deed, answer) ∷ [])
    ∙ ap (λ rest. faults_of session answers ++ rest)
    (append-nil (if concerns session deed then fault_in answer else []))

if_same : {X : Type 0} (test : Bool) (x : X) → (if test then x else x) ≡ x
if_same true x = refl
if_same false x = refl

first_push : (faults : List NotMade) (fault : NotMade)
    → first_of (faults ++ fault ∷ []) ≡ note_fault (first_of faults) fault
first_push [] fault = refl
first_push (first ∷ faults) fault = refl

-- what was done is no fault of anyone
pub refused_ok : (session : ℕ) (answers : List Answer) (deed : Deed)
    → first_fault_of session (answers ++ (deed, Ok tt) ∷ []) ≡ first_fault_of session answers
refused_ok session answers deed =
    ap first_of (faults_push session answers deed (Ok tt)
    ∙ ap (λ rest. faults_of session answers ++ rest) (if_same (concerns session deed) [])
    ∙ append-nil (faults_of session answers))

pub refused_err : (session : ℕ) (answers : List Answer) (deed : Deed) (fault : NotMade)
    → concerns session deed ≡ true →
    first_fault_of session (answers ++ (deed, Err fault) ∷ []) ≡ note_fault (first_fault_of session answers) fault
refused_err session answers deed fault here =
    ap first_of (faults_push session answers deed (Err fault)
    ∙ ap (λ (test : Bool). faults_of session answers ++ (if test then fault ∷ [] else [])) here)
    ∙ first_push (faults_of session answers) fault

pub refused_push : (session : ℕ) (answers : List Answer) (deed : Deed)
    (answer : Result ⊤ NotMade) → concerns session deed ≡ true →
    first_fault_of session (answers ++ (deed, answer) ∷ []) ≡ with_answer (first_fault_of session answers) answer
refused_push session answers deed (Ok done) here = refused_ok session answers deed
refused_push session answers deed (Err fault) here = refused_err session answers deed fault here

-- where no fault was answered before, and none is noted now, none was answered
pub unrefused_push : (answers : List Answer) (deed : Deed) (answer : Result ⊤ NotMade)
    (cause : Option NotMade) → (cause ≡ None → (number : ℕ) → first_fault_of number answers ≡ None)
    → with_answer cause answer ≡ None →
    (number : ℕ) → first_fault_of number (answers ++ (deed, answer) ∷ []) ≡ None
unrefused_push answers deed (Ok done) cause none e number =
    refused_ok number answers deed ∙ none e number
unrefused_push answers deed (Err fault) None none e number = absurd (cc e)
unrefused_push answers deed (Err fault) (Some first) none e number = absurd (cc e)

-- ---- what came after it

pub flushed_kept : (session : ℕ) (answers more : List Answer) → IsFlushedAfter session answers
    → IsFlushedAfter session (answers ++ more)
flushed_kept session answers more (before, rest, e, some) = (
  before,
  rest ++ more,
  ap (λ all. all ++ more) e ∙ append_assoc before (flush_made ∷ rest) more,
  some,
)

pub settled_kept : (session : ℕ) (answers more : List Answer) → IsSettledAfter session answers
    → IsSettledAfter session (answers ++ more)
settled_kept session answers more (before, between, rest, e, some) = (
  before,
  between,
  rest ++ more,
  ap (λ all. all ++ more) e
      ∙ append_assoc (before ++ flush_made ∷ between) (drained_empty session ∷ rest) more,
  some,
)

pub refusal_kept : (session : ℕ) (answers more : List Answer) → HasRefused session answers
    → HasRefused session (answers ++ more)
refusal_kept session answers more (before, rest, what, why, e, is) = (
  before,
  rest ++ more,
  what,
  why,
  ap (λ all. all ++ more) e ∙ append_assoc before ((what, Err why) ∷ rest) more,
  is,
)

-- a flush that was made after a fault
pub flushed_after : (session : ℕ) (answers : List Answer) → first_fault_of session answers ≢ None
    → IsFlushedAfter session (answers ++ flush_made ∷ [])
flushed_after session answers some = (answers, [], refl, some)

-- and then a drain that gave nothing
pub drained_after : (session : ℕ) (answers : List Answer) → IsFlushedAfter session answers
    → IsSettledAfter session (answers ++ drained_empty session ∷ [])
drained_after session answers (before, between, e, some) = (
  before,
  between,
  [],
  ap (λ all. all ++ drained_empty session ∷ []) e,
  some,
)

pub refused_after : (session : ℕ) (answers : List Answer) (what : Deed) (why : NotMade)
    → sends session what ≡ true → HasRefused session (answers ++ (what, Err why) ∷ [])
refused_after session answers what why is = (answers, [], what, why, refl, is)

pub since_kept : (reached : Phase) (session : ℕ) (answers more : List Answer)
    → IsSince reached session answers → IsSince reached session (answers ++ more)
since_kept phase.Calm session answers more is = settled_kept session answers more is
since_kept (phase.Due lines) session answers more is = tt
since_kept phase.Owing session answers more is = tt
since_kept phase.Draining session answers more is = flushed_kept session answers more is
since_kept phase.Denied session answers more is = refusal_kept session answers more is

-- a fault after which it is still sent is one
pub sending_some : (cause : Option NotMade) → IsSending cause → cause ≢ None
sending_some None sending = absurd sending
sending_some (Some fault) sending = λ e. cc e

-- ---- the questions

pub asks_append : (first second : List Answer)
    → asks_in (first ++ second) ≡ asks_in first + asks_in second
asks_append first second =
    ap length (filter-append (λ (one : Answer). is_ask one.0) first second)
    ∙ length-append (filter (λ (one : Answer). is_ask one.0) first)
    (filter (λ (one : Answer). is_ask one.0) second)
