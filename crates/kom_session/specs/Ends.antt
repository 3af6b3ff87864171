-- Why the service of a link ended.
use Rattle.std.specs.Prelude.{◌≡◌, ℕ, ◌⊎◌, ◌==◌, Bool, true, false, List, [], Option, Some, None}
use Rattle.std.specs.Prelude.{IfSome}
use Rattle.kom_types.specs.declared.acts.Act.TheVariants as act
use Rattle.kom_types.specs.declared.acts.Record.{Record}
use Rattle.kom_types.specs.declared.answers.Why.TheVariants as why
use Rattle.kom_types.specs.declared.items.Item.{Item}
use Rattle.kom_types.specs.Reading.{fault_of}
use Rattle.kom_links.specs.Outside.{Rose, LinkView, IsNothing}
use Rattle.kom_types.specs.declared.answers.NotMade.{NotMade}
use Rattle.kom_types.specs.declared.answers.NotMade.TheVariants as fault
use Rattle.kom_links.specs.declared.served.SessionEnd.{SessionEnd}
use Rattle.kom_links.specs.declared.served.SessionEnd.TheVariants as end

-- The desk's first fault gives the end; without one the link has ended, or its stream is at fault.
abbrev pub IsEndOf : Option NotMade → SessionEnd → Type 0
IsEndOf None end.End = Unit {0}
IsEndOf None (end.Broken place) = Unit {0}
IsEndOf None end.Overrun = ⊥
IsEndOf None end.Dropped = ⊥
IsEndOf None end.Stopped = ⊥
IsEndOf None end.LinkFault = ⊥
IsEndOf None (end.Full number) = ⊥
IsEndOf None end.Memory = Unit {0}
IsEndOf (Some (fault.Gone why.Absent)) ending = ending ≡ end.Memory
IsEndOf (Some (fault.Gone why.Dropped)) ending = (ending ≡ end.Dropped) ⊎ (ending ≡ end.Memory)
IsEndOf (Some (fault.Gone why.Overrun)) ending = (ending ≡ end.Overrun) ⊎ (ending ≡ end.Memory)
IsEndOf (Some (fault.Gone why.Stopped)) ending = (ending ≡ end.Stopped) ⊎ (ending ≡ end.Memory)
IsEndOf (Some (fault.Full number)) ending = (ending ≡ end.Full number) ⊎ (ending ≡ end.Memory)
IsEndOf (Some fault.Memory) ending = ending ≡ end.Memory

-- The cause of an end: a fault of the link goes before all; then the desk's first fault; that
-- memory ran out is free.
pub record HasCause (before after : ℕ) (fault : Option NotMade) (ended : Bool)
    (ending : SessionEnd) : Type 0 where
  pub link_fault : ending ≡ end.LinkFault → Rose before after
  pub rose : Rose before after → ending ≡ end.LinkFault
  pub desk : (Rose before after → ⊥) → IsEndOf fault ending
  pub has_ended : ending ≡ end.End → ended ≡ true

-- A stream at fault is answered so, unless the link failed, the desk answered a fault, or memory
-- ran out.
abbrev pub TellsFault : ℕ → ℕ → Option NotMade → List ℕ → SessionEnd → Type 0
TellsFault before after fault input ending =
    (place : ℕ) → fault_of input ≡ Some place → (Rose before after → ⊥) → fault ≡ None
    → (ending ≡ end.Broken place) ⊎ (ending ≡ end.Memory)

-- A link that was not read and to which nothing was put, where it tells that.
pub record IsUntouched (link : LinkView) : Type 0 where
  pub nothing_taken : IsNothing link.taken
  pub nothing_put : IsNothing link.put
  pub not_ended : link.ended ≡ false
  pub no_read : IfSome link.reads (λ looks. looks ≡ [])

-- these bytes were read, and these put, where the link tells that
abbrev pub HasCarried : LinkView → List ℕ → List ℕ → Type 0
HasCarried link input output =
    IfSome link.taken (λ bytes. bytes ≡ input) × IfSome link.put (λ bytes. bytes ≡ output)

-- a record of the session, or a flush
abbrev pub IsOwn : ℕ → Record → Type 0
IsOwn session made = (made.session ≡ session) ⊎ (made.entry.act ≡ act.Flush)

-- what the drains of the served session gave; without a session nothing
abbrev pub given_to : ℕ → List (List Item) → List (List Item)
given_to session given = elim (session == 0) [ true ↦ [] | false ↦ given ]

-- the end of a service in which the desk answered this fault first
abbrev pub end_at : NotMade → SessionEnd
end_at (fault.Gone why.Absent) = end.Memory
end_at (fault.Gone why.Dropped) = end.Dropped
end_at (fault.Gone why.Overrun) = end.Overrun
end_at (fault.Gone why.Stopped) = end.Stopped
end_at (fault.Full number) = end.Full number
end_at fault.Memory = end.Memory

-- the end of a service that was to end so: the desk's first fault goes before all but that
-- memory ran out
abbrev pub ending_of : SessionEnd → Option NotMade → SessionEnd
ending_of planned None = planned
ending_of end.Memory (Some fault) = end.Memory
ending_of end.End (Some fault) = end_at fault
ending_of (end.Broken place) (Some fault) = end_at fault
ending_of end.Overrun (Some fault) = end_at fault
ending_of end.Dropped (Some fault) = end_at fault
ending_of end.Stopped (Some fault) = end_at fault
ending_of end.LinkFault (Some fault) = end_at fault
ending_of (end.Full number) (Some fault) = end_at fault

-- the same, with whether the link failed
abbrev pub ending_with : Bool → SessionEnd → Option NotMade → SessionEnd
ending_with true planned cause = end.LinkFault
ending_with false planned cause = ending_of planned cause
