-- What a service left at its end.
use Rattle.std.proofs.Common.{◌≡◌, ◌≢◌, ℕ, Bool, true, false, inl, inr, List, Option, Some, None, refl}
use Rattle.kom_types.specs.declared.answers.Why.TheVariants as why
use Rattle.kom_types.specs.declared.answers.NotMade.{NotMade}
use Rattle.kom_types.specs.declared.answers.NotMade.TheVariants as fault
use Rattle.kom_links.specs.declared.served.SessionEnd.{SessionEnd}
use Rattle.kom_links.specs.declared.served.SessionEnd.TheVariants as end
use Rattle.kom_links.specs.Answers.{Answer}
use Rattle.kom_links.specs.Talk.{Step, IsDrained}
use Rattle.kom_session.specs.declared.phase.Phase.{Phase}
use Rattle.kom_session.specs.declared.phase.Phase.TheVariants as phase
use Rattle.kom_session.specs.Ends.{end_at, ending_with}
use Rattle.kom_session.specs.Known.{Seen}
use Rattle.kom_session.specs.Left.{IsSentAll, IfSending, IsSending}
use Rattle.kom_session.specs.Serving.{IsSince, steps_in}
use Rattle.kom_session.specs.Kept.{IsAtRest, IsSent}
use Rattle.kom_session.proofs.Causes.{IsPlanned}
use Rattle.kom_session.proofs.Ends.{Told}

-- ---- the ends at which what waits was sent

at_fault : (reason : NotMade) (P : Type 0) → (IsSending (Some reason) → P)
    → IfSending (end_at reason) P
at_fault (fault.Gone why.Absent) P sends = tt
at_fault (fault.Gone why.Dropped) P sends = sends tt
at_fault (fault.Gone why.Overrun) P sends = tt
at_fault (fault.Gone why.Stopped) P sends = sends tt
at_fault (fault.Full number) P sends = tt
at_fault fault.Memory P sends = tt

-- a fact that an end which the loop gives has after such a fault
abbrev IfPlanned : SessionEnd → Type 0 → Type 0
IfPlanned end.End P = P
IfPlanned (end.Broken place) P = P
IfPlanned end.Overrun P = Unit {0}
IfPlanned end.Dropped P = Unit {0}
IfPlanned end.Stopped P = Unit {0}
IfPlanned end.LinkFault P = Unit {0}
IfPlanned (end.Full number) P = Unit {0}
IfPlanned end.Memory P = Unit {0}

sending_so : (risen : Bool) (planned : SessionEnd) (cause : Option NotMade) (P : Type 0)
    → IsPlanned planned → (planned ≡ end.LinkFault → risen ≡ true)
    → IfPlanned planned (IsSending cause → P) → IfSending (ending_with risen planned cause) P
sending_so true planned cause P is_planned lost sends = tt
sending_so false end.End None P is_planned lost sends = tt
sending_so false end.End (Some reason) P is_planned lost sends = at_fault reason P sends
sending_so false (end.Broken place) None P is_planned lost sends = tt
sending_so false (end.Broken place) (Some reason) P is_planned lost sends =
    at_fault reason P sends
sending_so false end.LinkFault cause P is_planned lost sends = absurd (cc (lost refl))
sending_so false end.Memory None P is_planned lost sends = tt
sending_so false end.Memory (Some reason) P is_planned lost sends = tt
sending_so false end.Overrun cause P is_planned lost sends = absurd is_planned
sending_so false end.Dropped cause P is_planned lost sends = absurd is_planned
sending_so false end.Stopped cause P is_planned lost sends = absurd is_planned
sending_so false (end.Full number) cause P is_planned lost sends = absurd is_planned

-- ---- what was sent

sent_all : (reached : Phase) (steps : List Step) (session : ℕ) (answers : List Answer)
    → IsAtRest reached → (reached ≡ phase.Calm → IsDrained steps)
    → IsSince reached session answers → IsSentAll steps session answers
sent_all phase.Calm steps session answers rest drained since = inl (drained refl, since)
sent_all (phase.Due lines) steps session answers rest drained since = absurd rest
sent_all phase.Owing steps session answers rest drained since = absurd rest
sent_all phase.Draining steps session answers rest drained since = absurd rest
sent_all phase.Denied steps session answers rest drained since = inr since

planned_so : (planned : SessionEnd) (reached : Phase) (P Q : Type 0) → IsSent planned reached
    → (IsAtRest reached → P → Q) → IfPlanned planned (P → Q)
planned_so end.End reached P Q rest so = so rest
planned_so (end.Broken place) reached P Q rest so = so rest
planned_so end.Overrun reached P Q sent so = tt
planned_so end.Dropped reached P Q sent so = tt
planned_so end.Stopped reached P Q sent so = tt
planned_so end.LinkFault reached P Q sent so = tt
planned_so (end.Full number) reached P Q sent so = tt
planned_so end.Memory reached P Q sent so = tt

-- what was left, once the session was closed
pub left_link : {start : Seen} {fed : List ℕ} {session : ℕ} {cause : Option NotMade}
    {reached : Phase} {after : Seen} (risen : Bool) (planned : SessionEnd)
    (told : Told start fed session cause reached after (ending_with risen planned cause)) →
    IsPlanned planned → (planned ≡ end.LinkFault → risen ≡ true) → IsSent planned reached
    → session ≢ 0 → IfSending (ending_with risen planned cause)
    (IsSentAll (steps_in after session told.added) session told.more)
left_link {session = session} {cause = cause} {reached = reached} {after = after} risen planned told
    is_planned lost sent some =
    sending_so risen planned cause
    (IsSentAll (steps_in after session told.added) session told.more) is_planned lost
    (planned_so planned reached (IsSending cause)
    (IsSentAll (steps_in after session told.added) session told.more) sent
    (λ rest sending. sent_all reached (steps_in after session told.added) session told.more rest
    (told.drained some) (told.since some sending)))
