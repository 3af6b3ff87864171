-- What contracts see of gates, sinks and worlds, and what their calls and those of clocks say.
use Rattle.std.specs.Prelude.{◌≡◌, ℕ, ◌+◌, ◌≤◌, ◌||◌, Bool, true, false, IsTrue, List, [], ◌∷◌}
use Rattle.std.specs.Prelude.{◌++◌}
use Rattle.std.specs.Prelude.{length, take, Option, Some, None, option_map, IfSome, Result, Ok, Err}
use Rattle.std.specs.Prelude.{OnOk, OnErr}
use Rattle.kom_links.specs.declared.world_counts.WorldCounts.{WorldCounts}
use Rattle.kom_links.specs.declared.gate.Next.{Next}
use Rattle.kom_links.specs.declared.gate.Next.TheVariants as next
use Rattle.kom_links.specs.declared.served.Served.{Served}
use Rattle.kom_links.specs.declared.world.WorldFault.{WorldFault}
use Rattle.kom_links.specs.declared.world.WorldFault.TheVariants as world
use Rattle.kom_links.specs.Outside.{Rose, with_bytes, IsNothing}

-- What contracts see of a gate: how many links it gave so far, and those that were given back, in
-- order, each with how it was served, both if the gate tells them; whether it returned Ended;
-- and how often it failed.
pub record GateView (L : Type 0) : Type 0 where
  pub given : Option ℕ
  pub returned : Option (List (L × Served))
  pub ended : Bool
  pub faults : ℕ

-- what contracts see of a sink: the bytes that were put to it so far, if it tells them, and how
-- often it failed
pub record SinkView : Type 0 where
  pub put : Option (List ℕ)
  pub faults : ℕ

-- What contracts see of a world: how often it was asked for what it has; how often it failed; and
-- if it tells them, the moment that each of its clocks gives first, and the bytes of each path as
-- the run found them. A missing file counts as empty.
pub record WorldView : Type 0 where
  pub counts : WorldCounts
  pub faults : ℕ
  pub moment : Option ℕ
  pub files : Option (List ℕ → List ℕ)

-- what a world tells stays
pub record KeepsTold (old new : WorldView) : Type 0 where
  pub moment : new.moment ≡ old.moment
  pub files : new.files ≡ old.files

-- a fact of the link that a gate gives, if it gives one
abbrev pub IfLink : {L : Type 0} → Next L → (L → Type 0) → Type 0
IfLink (next.Link link) P = P link
IfLink next.NotYet P = Unit {0}
IfLink next.Ended P = Unit {0}
IfLink next.Failed P = Unit {0}

-- a gate that returns Failed has counted it
abbrev pub MayNext : {L : Type 0} → ℕ → ℕ → Next L → Type 0
MayNext before after (next.Link link) = Unit {0}
MayNext before after next.NotYet = Unit {0}
MayNext before after next.Ended = Unit {0}
MayNext before after next.Failed = Rose before after

abbrev pub is_ended : {L : Type 0} → Next L → Bool
is_ended (next.Link link) = false
is_ended next.NotYet = false
is_ended next.Ended = true
is_ended next.Failed = false

-- how many links a call gives
abbrev pub links_in : {L : Type 0} → Next L → ℕ
links_in (next.Link link) = 1
links_in next.NotYet = 0
links_in next.Ended = 0
links_in next.Failed = 0

-- If a list is told after a call, it is what was told before it, and this one more at its end.
abbrev pub Gains : {X : Type 0} → Option (List X) → X → Option (List X) → Type 0
Gains {X} before one None = Unit {0}
Gains {X} before one (Some after) =
    (earlier : List X) × (before ≡ Some earlier) × (after ≡ earlier ++ one ∷ [])

-- a world returns Failed if it has counted that
abbrev pub MayRefuse : {X : Type 0} → ℕ → ℕ → Result X WorldFault → Type 0
MayRefuse before after (Ok value) = Unit {0}
MayRefuse before after (Err world.Failed) = Rose before after
MayRefuse before after (Err world.Memory) = Unit {0}

-- whether a world failed, which it counts
abbrev pub has_failed : {X : Type 0} → Result X WorldFault → Bool
has_failed (Ok value) = false
has_failed (Err world.Failed) = true
has_failed (Err world.Memory) = false

-- A gate was asked for a link, and gave one or none.
pub record Admits {L : Type 0} (old : GateView L) (answer : Next L)
    (new : GateView L) : Type 0 where
  pub may : MayNext old.faults new.faults answer
  pub given : new.given ≡ option_map (λ n. n + links_in answer) old.given
  pub returned : new.returned ≡ old.returned
  pub ended : new.ended ≡ (old.ended || is_ended answer)
  pub faults : old.faults ≤ new.faults

-- A link was given back to a gate, served so.
pub record TakesBack {L : Type 0} (old : GateView L) (link : L) (served : Served)
    (new : GateView L) : Type 0 where
  pub given : new.given ≡ old.given
  pub returned : Gains old.returned (link, served) new.returned
  pub ended : new.ended ≡ old.ended
  pub faults : old.faults ≤ new.faults

-- A gate that has given no link yet, if it tells that.
pub record IsNewGate {L : Type 0} (gate : GateView L) : Type 0 where
  pub no_fault : gate.faults ≡ 0
  pub none_given : IfSome gate.given (λ n. n ≡ 0)
  pub none_back : IfSome gate.returned (λ links. links ≡ [])
  pub not_ended : gate.ended ≡ false

-- All bytes were put to a sink; or some of the first of them were, and it has counted a fault.
pub record Puts {X E : Type 0} (old : SinkView) (from : List ℕ) (answer : Result X E)
    (new : SinkView) : Type 0 where
  pub all : OnOk answer (new.put ≡ with_bytes from old.put)
  pub some : OnErr answer
      ((n : ℕ) × (n ≤ length from) × (new.put ≡ with_bytes (take n from) old.put))
  pub failed : OnErr answer (Rose old.faults new.faults)
  pub faults : old.faults ≤ new.faults

-- A sink to which nothing was put yet, if it tells that.
pub record IsNewSink (sink : SinkView) : Type 0 where
  pub no_fault : sink.faults ≡ 0
  pub nothing_put : IsNothing sink.put

-- A disk that was opened at this path has not failed, and reads as the run found the path, where
-- both are told.
pub record IsFound (tells : Bool) (files : Option (List ℕ → List ℕ)) (path bytes : List ℕ)
    (faults : ℕ) : Type 0 where
  pub no_fault : faults ≡ 0
  pub found : IsTrue tells → IfSome files (λ found. bytes ≡ found path)

-- a clock that has given no moment gives this one, if it tells both
abbrev pub GivesFirst : Option ℕ → Option (List ℕ) → ℕ → Type 0
GivesFirst first gave given =
    IfSome first (λ moment. IfSome gave (λ moments. moments ≡ [] → given ≡ moment))

-- A gate was left as it was, but that it may have failed.
pub record IsLeft {L : Type 0} (old new : GateView L) : Type 0 where
  pub given : new.given ≡ old.given
  pub returned : new.returned ≡ old.returned
  pub ended : new.ended ≡ old.ended
  pub faults : old.faults ≤ new.faults
