-- The workers of a hall, each with a pass, a gate and a clock.
use Rattle.std.specs.Prelude.{◌≡◌, ℕ, ◌+◌, ◌<◌, List, length, map, slice_index_or}
use Rattle.std.specs.Prelude.{Option, Some}
use Rattle.kom_types.specs.declared.acts.Record.{Record}
use Rattle.kom_links.specs.Doors.{GateView, IsNewGate}
use Rattle.kom_links.specs.Outside.{LinkView}
use Rattle.kom_model.specs.State.{State}
use Rattle.kom_state_lock.specs.Passes.{HallModel, PassModel, new_pass, IsReady}
use Rattle.hall_desk.specs.Passes.{pass_view}
use Rattle.kom_serving.specs.Runs.{AllGivenBack, IsDone, IsFirstReading}
use Rattle.kom_serving.specs.Serving.{Serves}

-- what contracts see of a worker: its pass, while it does not serve, its gate, and the readings
-- that its clock gave
pub record WorkerView (B E L : Type 0) : Type 0 where
  pub pass : Option (PassModel B E)
  pub gate : GateView L
  pub gave : Option (List ℕ)

module _ {B E L : Type 0} where
  -- a worker that has not begun: its pass, of this number, has made no act, and its gate is new
  pub record IsIdle (hall : HallModel B) (number : ℕ) (worker : WorkerView B E L)
      : Type 0 where
    pub pass : worker.pass ≡ Some (new_pass hall.table number)
    pub gate : IsNewGate worker.gate

  pub record AreIdle (hall : HallModel B) (workers : List (WorkerView B E L)) : Type 0 where
    pub long : length workers + 1 ≡ hall.passes
    pub each : (k : ℕ) (d : WorkerView B E L) → k < length workers →
        IsIdle hall k (slice_index_or workers k d)

  -- the gates and the readings of workers
  abbrev pub gates_of : List (WorkerView B E L) → List (GateView L)
  gates_of workers = map (λ worker. worker.gate) workers

  abbrev pub readings_of : List (WorkerView B E L) → List (Option (List ℕ))
  readings_of workers = map (λ worker. worker.gave) workers

  abbrev pub passes_of : List (WorkerView B E L) → List (Option (PassModel B E))
  passes_of workers = map (λ worker. worker.pass) workers

module _ {B E L : Type 0} (made : E → Record) (view : L → LinkView) (start : State) where
  -- a worker that has served its gate by its pass, of this number, until the gate was done
  pub record HasServed (hall : HallModel B) (number : ℕ) (worker : WorkerView B E L)
      : Type 0 where
    pub pass : PassModel B E
    pub has : worker.pass ≡ Some pass
    pub ready : IsReady hall number pass
    pub serves : Serves view start (pass_view made pass) worker.gate.returned worker.gave
    pub all_back : AllGivenBack worker.gate
    pub done : IsDone start (map made pass.seen) worker.gate

  pub record HaveServed (hall : HallModel B) (workers : List (WorkerView B E L))
      : Type 0 where
    pub long : length workers + 1 ≡ hall.passes
    pub each : (k : ℕ) (d : WorkerView B E L) → k < length workers →
        HasServed hall k (slice_index_or workers k d)

-- what was the first reading of the first of these clocks still is
abbrev pub KeepFirst : List (Option (List ℕ)) → List (Option (List ℕ)) → Type 0
KeepFirst before after = (moment : ℕ) → IsFirstReading moment before → IsFirstReading moment after
