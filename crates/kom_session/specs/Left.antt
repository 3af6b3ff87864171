-- What a conversation left at its end.
use Rattle.std.specs.Prelude.{ℕ, ◌⊎◌, List, Option, Some, None, length, filter}
use Rattle.kom_types.specs.declared.answers.Why.TheVariants as why
use Rattle.kom_links.specs.Answers.{Answer, IsSettledAfter, HasRefused}
use Rattle.kom_types.specs.declared.answers.NotMade.{NotMade}
use Rattle.kom_types.specs.declared.answers.NotMade.TheVariants as fault
use Rattle.kom_links.specs.declared.served.SessionEnd.{SessionEnd}
use Rattle.kom_links.specs.declared.served.SessionEnd.TheVariants as end
use Rattle.kom_links.specs.Outside.{Look}
use Rattle.kom_links.specs.Talk.{Step, IsDrained}

-- how many of these reads found nothing
abbrev pub waits_in : List Look → ℕ
waits_in looks = length (filter (λ look. look.waited) looks)

-- After the session's last call, and after its first fault, the desk made a flush and then a drain
-- that gave nothing; or it refused one of the two.
abbrev pub IsSentAll : List Step → ℕ → List Answer → Type 0
IsSentAll steps session answers =
    (IsDrained steps × IsSettledAfter session answers) ⊎ HasRefused session answers

-- a fact of the ends at which what waits for the session is still sent
abbrev pub IfSending : SessionEnd → Type 0 → Type 0
IfSending end.End P = Unit {0}
IfSending (end.Broken place) P = Unit {0}
IfSending end.Overrun P = Unit {0}
IfSending end.Dropped P = P
IfSending end.Stopped P = P
IfSending end.LinkFault P = Unit {0}
IfSending (end.Full number) P = Unit {0}
IfSending end.Memory P = Unit {0}

-- a fault after which what waits for the session is still sent
abbrev pub IsSending : Option NotMade → Type 0
IsSending None = ⊥
IsSending (Some (fault.Gone why.Absent)) = ⊥
IsSending (Some (fault.Gone why.Dropped)) = Unit {0}
IsSending (Some (fault.Gone why.Overrun)) = ⊥
IsSending (Some (fault.Gone why.Stopped)) = Unit {0}
IsSending (Some (fault.Full number)) = ⊥
IsSending (Some fault.Memory) = ⊥
