use Rattle.std.proofs.Common.{ap, ◌∙◌}
use Rattle.kom_model.specs.calls.Call.{Asked}
use Rattle.kom_model.specs.Decide.{decision_of}
use Rattle.kom_core.proofs.Firm.{silent_firm}
use Rattle.kom_core.proofs.server_state.ServerState.comes_to.Goals as goal

-- a firm call sends nothing, and so memory did not run out
pub returns-in_err-messages-clause-firm : goal.returns-in_err-messages-clause-firm
returns-in_err-messages-clause-firm c = λ firm.
    let decided = c.in_ok-came.ensures.decided
    ∙ ap (λ (one : Asked). decision_of one c.args.asking.now.call.now) c.asked-asked.ensures in
    let sent = c.in_err-messages.ensures.silent
    (silent_firm c.args.self.now c.args.asking.now c.in_ok-came.came.decision decided firm) in
    cc
