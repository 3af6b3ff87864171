use Rattle.std.proofs.Common.{◌≡◌, []}
use Rattle.kom_core.proofs.Firm.{no_effects-firm}
use Rattle.kom_core.proofs.Keeping.{decided-fit}
use Rattle.kom_core.proofs.Orderly.{IsOrderly-decided}
use Rattle.kom_core.proofs.server_state.ServerState.carry_out.Goals as goal

pub apply-requires : goal.apply-requires
apply-requires g c = record {
  orderly =
      IsOrderly-decided c.args.self.now c.args.asking.now c.in_ok-decision.decision
      c.in_ok-decision.ensures.comes_to.0;
  fit =
      decided-fit c.args.self.now c.args.asking.now c.in_ok-decision.decision c.requires.sound
      c.in_ok-decision.ensures.comes_to.0;
}

-- for a firm call there is nothing to apply, and so memory did not run out
pub returns-in_err-apply-clause-firm : goal.returns-in_err-apply-clause-firm
returns-in_err-apply-clause-firm g c = λ firm.
    let decision = c.in_ok-decision.decision in
    let none : decision.effects ≡ [] =
    no_effects-firm c.args.self.now c.args.asking.now decision c.in_ok-decision.ensures.comes_to.0 firm in
    let applied = c.in_err-apply.ensures.none none in
    cc
