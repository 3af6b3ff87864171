-- The history of a server from its opening on hides.
use Rattle.std.proofs.Common.{◌≡◌, List, Option, length, sym, subst}
use Rattle.kom_types.specs.declared.acts.Record.{Record}
use Rattle.kom_model.specs.State.{State}
use Rattle.hall_desk.specs.Acts.{IsOpening}
use Rattle.noninterference.specs.Hiding.{IsHiding}
use Rattle.noninterference.proofs.Along.{all-hide}
use Rattle.kom_links.specs.Outside.{LinkView}
use Rattle.kom_commands.specs.declared.numbers.AtPort.{AtPort}
use Rattle.kom_book.specs.Stops.{record_of, records_of}
use Rattle.kom_book.specs.declared.ticked.Ticked.{Ticked}
use Rattle.kom_serving.specs.Runs.{Service, IsRunOf}
use Rattle.kom_server.specs.Comes.{IsHidingRun, IsOverAt, gates_at}

pub opened_hides : (state : State) → IsOpening state → (history : List Record) → IsHiding state history
opened_hides state opening history = all-hide state history opening.2

-- a run from a server before its first entry
pub hiding_run : {D L : Type 0} (view : L → LinkView) (port : Option AtPort) (start state : State) (well : Type 0)
    (service : Service (Ticked D) L) → IsOpening state → start ≡ state → IsRunOf record_of view state service →
    length service.gates ≡ gates_at port → (well → IsOverAt port start (records_of service.seen) service.gates) →
    IsHidingRun view port start well service
hiding_run view port start state well service opening same run number over = record {
  run = subst (λ (from : State). IsRunOf record_of view from service) (sym same) run;
  hides = subst (λ (from : State). IsHiding from (records_of service.seen)) (sym same)
      (opened_hides state opening (records_of service.seen));
  number = number;
  over = over;
}
