use Rattle.std.proofs.Common.{sym, ap, ◌∙◌}
use Rattle.kom_types.specs.declared.acts.Record.{Record}
use Rattle.kom_model.specs.After.{after}
use Rattle.kom_model.specs.State.{State}
use Rattle.kom_core.specs.Steps.{count_entry}
use Rattle.kom_core.proofs.Making.{refused-after}
use Rattle.kom_core.proofs.server_state.ServerState.refuse_flush.Goals as goal

pub returns-clause-state : goal.returns-clause-state
returns-clause-state c =
    c.advance.ensures
    ∙ ap (λ (state : State). count_entry c.args.entry.now.moment state) c.mark.ensures
    ∙ refused-after c.args.self.now c.args.entry.now c.requires.flush
    ∙ ap (λ (made : Record). after c.args.self.now made) (sym c.of.ensures)
