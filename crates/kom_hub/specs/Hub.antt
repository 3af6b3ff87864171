-- What a hub promises of the links that it served, and what holds of it in between.
use Rattle.std.specs.Prelude.{◌≡◌, ◌≢◌, ◌⊎◌, ◌<◌, ◌≤◌, ℕ, List, [], ◌∷◌, ◌++◌, length, true, false}
use Rattle.std.specs.Prelude.{Option, IfSome, Err, vec_len}
use Rattle.std.specs.List.{AllByRecursion}
use Rattle.kom_types.specs.declared.acts.Record.{Record}
use Rattle.kom_types.specs.declared.answers.Why.TheVariants as why
use Rattle.kom_links.specs.declared.deeds.Deed.TheVariants as deed
use Rattle.kom_types.specs.declared.answers.NotMade.TheVariants as fault
use Rattle.kom_links.specs.declared.served.Served.{Served}
use Rattle.kom_links.specs.Answers.{Answer}
use Rattle.kom_links.specs.DeskCalls.{DeskView}
use Rattle.kom_links.specs.Doors.{GateView}
use Rattle.kom_links.specs.Outside.{LinkView}
use Rattle.kom_links.specs.Records.{has_session}
use Rattle.kom_links.specs.Talk.{AreTimed}
use Rattle.kom_hub.specs.declared.crowd.TheConstants.{MOST_GUESTS}
use Rattle.kom_hub.specs.declared.hub.Hub.{Hub}
use Rattle.kom_hub.specs.declared.hub.HubEnd.{HubEnd}
use Rattle.kom_hub.specs.declared.hub.HubEnd.TheVariants as end
use Rattle.kom_hub.specs.Seats.{IsFlush, IsSeatAnswer, seat_of}
use Rattle.kom_hub.specs.Crowds.{IsAmong, AreDistinct, Stands}

-- a record is of the session of such a link, or a flush
abbrev pub IsOfOne : {L : Type 0} → List (L × Served) → Record → Type 0
IsOfOne links made = ((made.session ≢ 0) × IsAmong made.session links) ⊎ IsFlush made

-- each link that a gate gave was given back, where the gate tells that
abbrev pub AllGivenBack : {L : Type 0} → GateView L → Type 0
AllGivenBack gate =
    IfSome gate.given (λ number. IfSome gate.returned (λ links. number ≡ length links))

-- a desk was asked whether it is stopped, and answered that it is
abbrev pub SaidStopped : DeskView → Type 0
SaidStopped desk = (before rest : List Answer)
    × (desk.answers ≡ before ++ (deed.Ask, Err (fault.Gone why.Stopped)) ∷ rest)

-- Why a hub ended: its gate has ended, its desk is stopped, or its gate has failed.
abbrev pub IsWhy : {L : Type 0} → HubEnd → DeskView → GateView L → Type 0
IsWhy end.Ended desk gate = gate.ended ≡ true
IsWhy end.Stopped desk gate = SaidStopped desk
IsWhy end.GateFault desk gate = gate.faults ≢ 0

-- A link that was given back was served: it is in talk with what its seat shows, by answers that
-- are the desk's, but for memory that ran out at a connect or without a session; and its session
-- has records.
pub record WasServed {L : Type 0} (talks : DeskView → LinkView → Served → Type 0)
    (view : L → LinkView) (desk : DeskView) (back : L × Served) : Type 0 where
  pub answers : List Answer
  pub heard : AllByRecursion (IsSeatAnswer back.1.session desk) answers
  pub talk : talks (seat_of back.1.session answers desk) (view back.0) back.1
  pub known : back.1.session ≢ 0 → has_session back.1.session desk.mine ≡ true

-- All links that were given back were served, each so; where the gate tells them, these are they.
-- No two of them have one session, but for none; each record is of one of their sessions, or a
-- flush; and the records have readings that the clock gave since the beginning, each its own.
pub record IsServedCrowd {L : Type 0} (talks : DeskView → LinkView → Served → Type 0)
    (view : L → LinkView) (begun : Option (List ℕ)) (desk : DeskView) (gave : Option (List ℕ))
    (returned : Option (List (L × Served))) : Type 0 where
  pub links : List (L × Served)
  pub told : IfSome returned (λ told. told ≡ links)
  pub talk : AllByRecursion (WasServed talks view desk) links
  pub distinct : AreDistinct links
  pub owned : AllByRecursion (IsOfOne links) desk.mine
  pub timed : AreTimed begun gave desk.mine

-- A hub with all its room, in which nobody is, and that has asked no gate.
pub record IsEmptyHub {T L : Type 0} (hub : Hub T L) : Type 0 where
  pub nobody : hub.guests.slots ≡ []
  pub seats : MOST_GUESTS ≤ hub.guests.capacity
  pub room : 0 < vec_len hub.buffer
  pub not_ended : hub.has_ended ≡ false

module _ {T L : Type 0} (kept : T → DeskView → LinkView → Type 0)
    (talks : DeskView → LinkView → Served → Type 0) (view : L → LinkView) where
  -- A hub serves a crowd at a desk and a gate; it has room to read, and knows that its gate has
  -- ended only where that has.
  pub record IsServing (begun : Option (List ℕ)) (hub : Hub T L) (desk : DeskView)
      (gave : Option (List ℕ)) (gate : GateView L) : Type 0 where
    pub room : 0 < vec_len hub.buffer
    pub ended : hub.has_ended ≡ true → gate.ended ≡ true
    pub stands : Stands kept talks view begun desk gave hub.guests gate

  -- it serves a crowd since some beginning
  abbrev pub CanServe : Hub T L → DeskView → Option (List ℕ) → GateView L → Type 0
  CanServe hub desk gave gate =
      (begun : Option (List ℕ)) × IsServing begun hub desk gave gate

  -- whatever crowd it served, it serves it still
  abbrev pub Goes : Hub T L → DeskView → Option (List ℕ) → GateView L → Hub T L → DeskView
      → Option (List ℕ) → GateView L → Type 0
  Goes hub desk gave gate hub' desk' gave' gate' = (begun : Option (List ℕ))
      → IsServing begun hub desk gave gate → IsServing begun hub' desk' gave' gate'

  -- the same of a step that only the gate and the hub take
  abbrev pub GoesAlone : Hub T L → GateView L → Hub T L → GateView L → Type 0
  GoesAlone hub gate hub' gate' = (desk : DeskView) (gave : Option (List ℕ))
      → Goes hub desk gave gate hub' desk gave gate'
