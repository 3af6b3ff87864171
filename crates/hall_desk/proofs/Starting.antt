-- In which state a history begins.
use Rattle.std.proofs.Common.{◌≡◌, [], refl, sym, subst}
use Rattle.kom_model.specs.Db.{Db}
use Rattle.kom_model.specs.State.{State, IsSound, opening_state}
use Rattle.hall_desk.specs.Acts.{IsOpening}
use Rattle.hall_desk.proofs.Stepping.{AreDrawn}

-- What is used of the state in which a history begins: no session was connected, there is no
-- entry, and it is sound.
pub record IsStart (start : State) : Type 0 where
  pub drawn : AreDrawn start
  pub sessions : start.sessions ≡ []
  pub connects : start.connects ≡ 0
  pub entries : start.entries ≡ 0
  pub sound : IsSound start

opens : (db : Db) → IsSound (opening_state db) → IsStart (opening_state db)
opens db sound = record { drawn = tt; sessions = refl; connects = refl; entries = refl; sound = sound }

-- a server before its first entry is such a state
pub starts : (start : State) → IsOpening start → IsStart start
starts start is = subst IsStart (sym is.1) (opens is.0 (subst IsSound is.1 is.2))
