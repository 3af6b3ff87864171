-- A server over whole rows that are protected is sound from the start on, and the rows of a new server are so.
use Rattle.std.proofs.Common.{ℕ, List, arith}
use Rattle.std.specs.List.{IsDistinct}
use Rattle.kom_model.specs.Db.{Db, empty_db}
use Rattle.kom_model.specs.Effects.{IsProtected}
use Rattle.kom_model.specs.Initial.{initial, initial_effects}
use Rattle.kom_model.specs.State.{IsSound, opening_state}
use Rattle.kom_model.specs.Whole.{IsWhole}
use Rattle.kom_model.proofs.Protection.{IsProtected-apply_all}
use Rattle.kom_model.proofs.whole.Effects.{effects-whole, empty-whole}

-- there is no session before the first entry
pub IsSound-opening : (db : Db) → IsProtected db → IsWhole db → IsSound (opening_state db)
unfolding IsDistinct
IsSound-opening db protected whole = record {
  drawn = tt;
  distinct = tt;
  ordered = tt;
  seated = tt;
  stable = omega arith;
  protected = protected;
  whole = whole;
}

-- a new server's rows are made of none by effects
pub IsProtected-initial : (password : List ℕ) (moment : ℕ) → IsProtected (initial password moment)
unfolding initial
IsProtected-initial password moment = IsProtected-apply_all (initial_effects password moment) empty_db tt

pub IsWhole-initial : (password : List ℕ) (moment : ℕ) → IsWhole (initial password moment)
unfolding initial
IsWhole-initial password moment = effects-whole (initial_effects password moment) empty_db empty-whole
