use Rattle.std.proofs.Common.{[], ap, ◌∙◌}
use Rattle.kom_model.specs.State.{State, opening_state}
use Rattle.kom_model.specs.Initial.{initial}
use Rattle.kom_core.specs.Acts.{Held}
use Rattle.kom_load.specs.declared.runs.Run.{Run}
use Rattle.kom_load.specs.Loading.{new_server, run_of, summary_in}
use Rattle.kom_load.proofs.loading.load.Goals as goal

pub make_calls-requires-clause-new : goal.make_calls-requires-clause-new
unfolding new_server
make_calls-requires-clause-new c =
    ap (λ (held : Held). held.state) c.in_ok-core.ensures.value
    ∙ ap (λ moment. opening_state (initial [] moment)) c.at_most.ensures

pub returns-clause-summary : goal.returns-clause-summary
returns-clause-summary c =
    c.summary_in.ensures ∙ ap (λ (run : Run). summary_in run c.make_calls.new.core.state) c.in_ok-run.ensures.loaded
    ∙ ap (λ (state : State). summary_in (run_of c.args.count).run state) c.in_ok-run.ensures.leads.state
