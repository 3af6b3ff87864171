-- Why a service ends: of each end its cause, that a stream at fault is answered so, and what the link says of it.
use Rattle.std.proofs.Common.{◌≡◌, ◌≢◌, ℕ, ◌⊎◌, Bool, true, false, inl, inr, List, Option, Some, None, refl}
use Rattle.std.proofs.Common.{ap, subst}
use Rattle.kom_types.specs.declared.answers.Why.TheVariants as why
use Rattle.kom_types.specs.Reading.{fault_of}
use Rattle.kom_types.specs.declared.answers.NotMade.{NotMade}
use Rattle.kom_types.specs.declared.answers.NotMade.TheVariants as fault
use Rattle.kom_links.specs.declared.served.SessionEnd.{SessionEnd}
use Rattle.kom_links.specs.declared.served.SessionEnd.TheVariants as end
use Rattle.kom_links.specs.Outside.{Rose}
use Rattle.kom_session.specs.Ends.{IsEndOf, HasCause, TellsFault, end_at, ending_of, ending_with}
use Rattle.kom_session.specs.Known.{Known, Seen}
use Rattle.kom_session.specs.Serving.{Party, Nobody, Somebody, Past, Plans, IsHeard}
use Rattle.kom_session.specs.Kept.{IsOver}

-- ---- the cause

-- an end that the loop gives
abbrev pub IsPlanned : SessionEnd → Type 0
IsPlanned end.End = Unit {0}
IsPlanned (end.Broken place) = Unit {0}
IsPlanned end.LinkFault = Unit {0}
IsPlanned end.Memory = Unit {0}
IsPlanned end.Overrun = ⊥
IsPlanned end.Dropped = ⊥
IsPlanned end.Stopped = ⊥
IsPlanned (end.Full number) = ⊥

plans_planned : (planned : SessionEnd) (cause : Option NotMade) (past : Past) (known : Known)
    → Plans planned cause past known → IsPlanned planned
plans_planned end.End cause past known plan = tt
plans_planned (end.Broken place) cause past known plan = tt
plans_planned end.LinkFault cause past known plan = tt
plans_planned end.Memory cause past known plan = tt
plans_planned end.Overrun cause past known plan = plan
plans_planned end.Dropped cause past known plan = plan
plans_planned end.Stopped cause past known plan = plan
plans_planned (end.Full number) cause past known plan = plan

pub over_planned : {start : Seen} {past : Past} {known : Known} {now : Seen} {planned : SessionEnd}
    → IsOver start past known now planned → IsPlanned planned
over_planned {past = past} {known = known} {planned = planned} over =
    plans_planned planned known.cause past known over.plan

fault_ends : (why : NotMade) → IsEndOf (Some why) (end_at why)
fault_ends (fault.Gone why.Absent) = refl
fault_ends (fault.Gone why.Dropped) = inl refl
fault_ends (fault.Gone why.Overrun) = inl refl
fault_ends (fault.Gone why.Stopped) = inl refl
fault_ends (fault.Full number) = inl refl
fault_ends fault.Memory = refl

memory_ends : (why : NotMade) → IsEndOf (Some why) end.Memory
memory_ends (fault.Gone why.Absent) = refl
memory_ends (fault.Gone why.Dropped) = inr refl
memory_ends (fault.Gone why.Overrun) = inr refl
memory_ends (fault.Gone why.Stopped) = inr refl
memory_ends (fault.Full number) = inr refl
memory_ends fault.Memory = refl

-- a fault gives neither of these ends
not_from_fault : (why : NotMade) (final : SessionEnd) → (final ≡ end.LinkFault)
    ⊎ (final ≡ end.End) → end_at why ≡ final → ⊥
not_from_fault (fault.Gone why.Absent) final (inl p) e = cc
not_from_fault (fault.Gone why.Absent) final (inr p) e = cc
not_from_fault (fault.Gone why.Dropped) final (inl p) e = cc
not_from_fault (fault.Gone why.Dropped) final (inr p) e = cc
not_from_fault (fault.Gone why.Overrun) final (inl p) e = cc
not_from_fault (fault.Gone why.Overrun) final (inr p) e = cc
not_from_fault (fault.Gone why.Stopped) final (inl p) e = cc
not_from_fault (fault.Gone why.Stopped) final (inr p) e = cc
not_from_fault (fault.Full number) final (inl p) e = cc
not_from_fault (fault.Full number) final (inr p) e = cc
not_from_fault fault.Memory final (inl p) e = cc
not_from_fault fault.Memory final (inr p) e = cc

record Ends (planned : SessionEnd) (cause : Option NotMade) (ended : Bool) : Type 0 where
  link : ending_of planned cause ≡ end.LinkFault → ⊥
  desk : IsEndOf cause (ending_of planned cause)
  has_ended : ending_of planned cause ≡ end.End → ended ≡ true

ends_so : (planned : SessionEnd) (cause : Option NotMade) (ended : Bool) → IsPlanned planned
    → planned ≢ end.LinkFault → (planned ≡ end.End → cause ≡ None → ended ≡ true)
    → Ends planned cause ended
ends_so end.End None ended is_planned some told =
    record { link = λ e. cc; desk = tt; has_ended = λ e. told refl refl }
ends_so end.End (Some why) ended is_planned some told =
    record {
      link = λ e. not_from_fault why end.LinkFault (inl refl) e;
      desk = fault_ends why;
      has_ended = λ e. absurd (not_from_fault why end.End (inr refl) e);
    }
ends_so (end.Broken place) None ended is_planned some told =
    record { link = λ e. cc; desk = tt; has_ended = λ e. cc }
ends_so (end.Broken place) (Some why) ended is_planned some told =
    record {
      link = λ e. not_from_fault why end.LinkFault (inl refl) e;
      desk = fault_ends why;
      has_ended = λ e. absurd (not_from_fault why end.End (inr refl) e);
    }
ends_so end.LinkFault cause ended is_planned some told = absurd (some refl)
ends_so end.Memory None ended is_planned some told =
    record { link = λ e. cc; desk = tt; has_ended = λ e. cc }
ends_so end.Memory (Some why) ended is_planned some told =
    record { link = λ e. cc; desk = memory_ends why; has_ended = λ e. cc }
ends_so end.Overrun cause ended is_planned some told = absurd is_planned
ends_so end.Dropped cause ended is_planned some told = absurd is_planned
ends_so end.Stopped cause ended is_planned some told = absurd is_planned
ends_so (end.Full number) cause ended is_planned some told = absurd is_planned

pub has_cause : (risen : Bool) (planned : SessionEnd) (cause : Option NotMade) (before after : ℕ)
    (ended : Bool) → IsPlanned planned → (risen ≡ true → Rose before after)
    → (risen ≡ false → Rose before after → ⊥) →
    (planned ≡ end.LinkFault → risen ≡ true) → (planned ≡ end.End → cause ≡ None → ended ≡ true)
    → HasCause before after cause ended (ending_with risen planned cause)
has_cause true planned cause before after ended is_planned rises still lost told = record {
  link_fault = λ e. rises refl;
  rose = λ rose. refl;
  desk = λ none. absurd (none (rises refl));
  has_ended = λ e. cc;
}
has_cause false planned cause before after ended is_planned rises still lost told =
    let so = ends_so planned cause ended is_planned (λ e. cc (lost e)) told in
    record {
      link_fault = λ e. absurd (so.link e);
      rose = λ rose. absurd (still refl rose);
      desk = λ none. so.desk;
      has_ended = λ e. so.has_ended e;
    }

-- ---- a stream at fault is answered so

planned_tells : (planned : SessionEnd) (found : Option ℕ) (place : ℕ) → found ≡ Some place
    → (planned ≡ end.LinkFault → ⊥) →
    (planned ≡ end.End → found ≡ None) → ((at : ℕ) → planned ≡ end.Broken at → found ≡ Some at)
    → IsPlanned planned → (planned ≡ end.Broken place) ⊎ (planned ≡ end.Memory)
planned_tells end.End found place e link none at is_planned = let sound = none refl in absurd (cc)
planned_tells (end.Broken there) found place e link none at is_planned =
    let same = at there refl in let equal : there ≡ place = cc in inl (ap end.Broken equal)
planned_tells end.LinkFault found place e link none at is_planned = absurd (link refl)
planned_tells end.Memory found place e link none at is_planned = inr refl
planned_tells end.Overrun found place e link none at is_planned = absurd is_planned
planned_tells end.Dropped found place e link none at is_planned = absurd is_planned
planned_tells end.Stopped found place e link none at is_planned = absurd is_planned
planned_tells (end.Full number) found place e link none at is_planned = absurd is_planned

none_plan : (planned : SessionEnd) (cause : Option NotMade) (party : Party) (fed : List ℕ)
    (known : Known) → Plans planned cause (record { fed = fed; party = party }) known → cause ≡ None
    → planned ≡ end.End → fault_of fed ≡ None
none_plan end.End None (Nobody told) fed known plan none e = plan.1.1
none_plan end.End None (Somebody user requests broken) fed known plan none e = plan.1.0
none_plan end.End (Some reason) party fed known plan none e = absurd (cc)
none_plan (end.Broken place) cause party fed known plan none e = absurd (cc)
none_plan end.LinkFault cause party fed known plan none e = absurd (cc)
none_plan end.Memory cause party fed known plan none e = absurd (cc)
none_plan end.Overrun cause party fed known plan none e = absurd plan
none_plan end.Dropped cause party fed known plan none e = absurd plan
none_plan end.Stopped cause party fed known plan none e = absurd plan
none_plan (end.Full number) cause party fed known plan none e = absurd plan

place_plan : (at : ℕ) (cause : Option NotMade) (party : Party) (fed : List ℕ) (known : Known)
    → Plans (end.Broken at) cause (record { fed = fed; party = party }) known → cause ≡ None
    → fault_of fed ≡ Some at
place_plan at None (Nobody told) fed known plan none = plan.1.1
place_plan at None (Somebody user requests broken) fed known plan none = plan.1.1.0
place_plan at (Some reason) party fed known plan none = absurd (cc)

pub tells_fault : {start : Seen} {past : Past} {known : Known} {now : Seen} {planned : SessionEnd}
    → IsOver start past known now planned →
    (risen : Bool) (before after : ℕ) (cause : Option NotMade)
    → (risen ≡ true → Rose before after) → (planned ≡ end.LinkFault → risen ≡ true)
    → (cause ≡ None → known.cause ≡ None) →
    TellsFault before after cause past.fed (ending_with risen planned cause)
tells_fault over true before after cause rises lost first place found none no_cause =
    absurd (none (rises refl))
tells_fault over false before after (Some reason) rises lost first place found none no_cause =
    absurd (cc)
tells_fault {past = past} {known = known} {planned = planned} over false before after None rises
    lost first place found none no_cause =
    planned_tells planned (fault_of past.fed) place found (λ e. cc (lost e))
    (none_plan planned known.cause past.party past.fed known over.plan (first refl))
    (λ at e. place_plan at known.cause past.party past.fed known
    (subst (λ (planned : SessionEnd). Plans planned known.cause past known) e over.plan)
    (first refl))
    (over_planned over)

-- what the link says of an end
pub heard_lost : {start : Seen} {past : Past} {known : Known} {now : Seen} {planned : SessionEnd}
    → IsOver start past known now planned → planned ≡ end.LinkFault
    → Rose start.link.faults now.link.faults
heard_lost {start} {past} {known} {now} over e =
    subst (λ (planned : SessionEnd). IsHeard planned known.cause start.link now.link) e over.heard

pub heard_ended : {start : Seen} {past : Past} {known : Known} {now : Seen} {planned : SessionEnd}
    → IsOver start past known now planned → planned ≡ end.End → known.cause ≡ None
    → now.link.ended ≡ true
heard_ended {start} {past} {known} {now} over e none =
    subst (λ (cause : Option NotMade). IsHeard end.End cause start.link now.link) none
    (subst (λ (planned : SessionEnd). IsHeard planned known.cause start.link now.link) e
    over.heard)
