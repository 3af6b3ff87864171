-- What a desk answered, deed by deed.
use Rattle.std.specs.Prelude.{◌≡◌, ◌≢◌, ℕ, ◌==◌, Bool, true, false, List, [], ◌∷◌, ◌++◌, length}
use Rattle.std.specs.Prelude.{filter, flat_map, Option, Some, None, Result, Ok, Err, ⊤}
use Rattle.std.specs.Prelude.{if◌then◌else◌}
use Rattle.kom_types.specs.declared.acts.Act.{Act}
use Rattle.kom_types.specs.declared.acts.Act.TheVariants as act
use Rattle.kom_types.specs.declared.answers.Why.TheVariants as why
use Rattle.kom_types.specs.declared.items.Item.{Item}
use Rattle.kom_links.specs.declared.deeds.Deed.{Deed}
use Rattle.kom_links.specs.declared.deeds.Deed.TheVariants as deed
use Rattle.kom_types.specs.declared.answers.NotMade.{NotMade}
use Rattle.kom_types.specs.declared.answers.NotMade.TheVariants as fault

-- an answer: that a deed was done, or why not
abbrev pub Answer : Type 0
Answer = Deed × Result ⊤ NotMade

-- an answer without what it hands over
abbrev pub without_value : {X : Type 0} → Result X NotMade → Result ⊤ NotMade
without_value (Ok value) = Ok tt
without_value (Err fault) = Err fault

-- that the desk is stopped counts as a fault
abbrev pub said_stopped : Result Bool NotMade → Result ⊤ NotMade
said_stopped (Ok false) = Ok tt
said_stopped (Ok true) = Err (fault.Gone why.Stopped)
said_stopped (Err fault) = Err fault

-- whether a drain gave nothing
abbrev pub is_nothing : List Item → Bool
is_nothing [] = true
is_nothing (item ∷ items) = false

-- the deed of an act that gives nothing
abbrev pub deed_of : Act → Deed
deed_of (act.Connect user host) = deed.Connect
deed_of (act.Call session reference call) = deed.Call session
deed_of (act.Broken session) = deed.Broken session
deed_of (act.Drain session) = deed.Drain session true
deed_of act.Flush = deed.Flush
deed_of (act.Close session) = deed.Close session

-- A deed concerns a session: an act of it, a flush, and the question whether the desk is stopped.
-- A connect concerns no session, which is number 0.
abbrev pub concerns : ℕ → Deed → Bool
concerns session deed.Connect = session == 0
concerns session (deed.Call caller) = caller == session
concerns session (deed.Broken caller) = caller == session
concerns session (deed.Drain caller nothing) = caller == session
concerns session deed.Flush = true
concerns session (deed.Close caller) = caller == session
concerns session deed.Ask = true

-- the fault that an answer tells, as a list of one or none
abbrev pub fault_in : Result ⊤ NotMade → List NotMade
fault_in (Ok done) = []
fault_in (Err fault) = fault ∷ []

-- the faults that concern a session, in order
abbrev pub faults_of : ℕ → List Answer → List NotMade
faults_of session answers =
    flat_map (λ one. if concerns session one.0 then fault_in one.1 else []) answers

-- the first of some faults
abbrev pub first_of : List NotMade → Option NotMade
first_of [] = None
first_of (fault ∷ faults) = Some fault

-- the first fault that concerns a session
abbrev pub first_fault_of : ℕ → List Answer → Option NotMade
first_fault_of session answers = first_of (faults_of session answers)

abbrev pub is_ask : Deed → Bool
is_ask deed.Connect = false
is_ask (deed.Call session) = false
is_ask (deed.Broken session) = false
is_ask (deed.Drain session nothing) = false
is_ask deed.Flush = false
is_ask (deed.Close session) = false
is_ask deed.Ask = true

-- how often the desk was asked whether it is stopped
abbrev pub asks_in : List Answer → ℕ
asks_in answers = length (filter (λ one. is_ask one.0) answers)

-- a flush that was made, and a drain of a session that gave nothing
abbrev pub flush_made : Answer
flush_made = (deed.Flush, Ok tt)

abbrev pub drained_empty : ℕ → Answer
drained_empty session = (deed.Drain session true, Ok tt)

-- After the first fault that concerns a session a flush was made.
abbrev pub IsFlushedAfter : ℕ → List Answer → Type 0
IsFlushedAfter session answers =
    (before rest : List Answer) × (answers ≡ before ++ flush_made ∷ rest)
    × (first_fault_of session before ≢ None)

-- After the first fault that concerns a session a flush was made, and after that a drain gave the
-- session nothing.
abbrev pub IsSettledAfter : ℕ → List Answer → Type 0
IsSettledAfter session answers = (before between rest : List Answer)
    × (answers ≡ before ++ flush_made ∷ between ++ drained_empty session ∷ rest)
    × (first_fault_of session before ≢ None)

-- a flush, or a drain of a session
abbrev pub sends : ℕ → Deed → Bool
sends session deed.Connect = false
sends session (deed.Call caller) = false
sends session (deed.Broken caller) = false
sends session (deed.Drain caller nothing) = caller == session
sends session deed.Flush = true
sends session (deed.Close caller) = false
sends session deed.Ask = false

-- A flush, or a drain of a session, was refused.
abbrev pub HasRefused : ℕ → List Answer → Type 0
HasRefused session answers = (before rest : List Answer) × (what : Deed) × (why : NotMade)
    × (answers ≡ before ++ (what, Err why) ∷ rest) × (sends session what ≡ true)
