-- What a pass leaves of its gate.
use Rattle.std.specs.Prelude.{◌≡◌, ℕ, ◌+◌, nat_eq, false, List, [], ◌∷◌, length, map, Option}
use Rattle.std.specs.Prelude.{IfSome}
use Rattle.std.specs.List.{AllByRecursion, IsDistinct}
use Rattle.kom_links.specs.declared.served.Served.{Served}
use Rattle.kom_links.specs.Doors.{GateView}
use Rattle.kom_links.specs.Outside.{LinkView}
use Rattle.kom_links.specs.Records.{is_open}
use Rattle.kom_links.specs.Talk.{IsChosen}
use Rattle.kom_model.specs.State.{State}
use Rattle.hall_desk.specs.Passes.{PassView, of_pass}
use Rattle.kom_serving.specs.Runs.{is_lock_full, Talks, sessions_of, IsOfOne, IsFirstReading}

-- The links that were given back are served by the pass's own records in what it has seen of the
-- history from this state on. Each of its own records is of one of their sessions, or a flush, and
-- has a reading of its own. Unless no turn is left, the pass has closed each session.
pub record Serves {L : Type 0} (view : L → LinkView) (start : State) (pass : PassView)
    (returned : Option (List (L × Served))) (gave : Option (List ℕ)) : Type 0 where
  pub mine : pass.mine ≡ of_pass pass.number pass.seen
  pub talks : IfSome returned (λ links. AllByRecursion (λ back.
      Talks start pass.seen pass.mine pass.drawn (view back.0) back.1) links)
  pub owned : IfSome returned (λ links. AllByRecursion (IsOfOne (sessions_of links)) pass.mine)
  pub timed : IfSome gave (λ readings.
      IsChosen (map (λ made. made.entry.moment) pass.mine) readings)
  pub distinct : IfSome returned (λ links. IsDistinct nat_eq (sessions_of links))
  pub closed : is_lock_full pass.drawn ≡ false →
      (session : ℕ) → is_open session pass.mine ≡ false

-- what was the first reading of a clock still is
abbrev pub KeepsFirst : Option (List ℕ) → Option (List ℕ) → Type 0
KeepsFirst before after =
    (moment : ℕ) → IsFirstReading moment (before ∷ []) → IsFirstReading moment (after ∷ [])

-- one link more was given than was given back
abbrev pub OneIsOut : {L : Type 0} → GateView L → Type 0
OneIsOut gate =
    IfSome gate.given (λ number. IfSome gate.returned (λ links. number ≡ length links + 1))
