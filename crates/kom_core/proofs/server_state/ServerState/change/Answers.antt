use Rattle.std.proofs.Common.{List, sym, ap, ◌∙◌}
use Rattle.kom_types.specs.declared.acts.Act.TheVariants as act
use Rattle.kom_model.specs.After.{session_in}
use Rattle.kom_types.specs.declared.effects.Effect.{Effect}
use Rattle.kom_state.specs.Keepers.{append_pending}
use Rattle.kom_core.proofs.Keeping.{call_kept}
use Rattle.kom_core.proofs.Making.{Changes-by}
use Rattle.kom_core.proofs.server_state.ServerState.change.Goals as goal

pub returns-in-Drain-clause-step : goal.returns-in-Drain-clause-step
returns-in-Drain-clause-step g c = (
  sym (ap (λ what. session_in c.args.self.now what) c.in-Drain.is),
  tt,
  Changes-by c.args.self.now c.drain.new.self c.args.entry.now (act.Drain c.in-Drain.session) c.in-Drain.is
      c.drain.ensures.step,
)

pub returns-in-Flush-clause-step : goal.returns-in-Flush-clause-step
returns-in-Flush-clause-step g c = (
  sym (ap (λ what. session_in c.args.self.now what) c.in-Flush.is),
  tt,
  Changes-by c.args.self.now c.flush.new.self c.args.entry.now act.Flush c.in-Flush.is c.flush.ensures,
)

pub returns-in-Close-clause-step : goal.returns-in-Close-clause-step
returns-in-Close-clause-step g c = (
  sym (ap (λ what. session_in c.args.self.now what) c.in-Close.is),
  tt,
  Changes-by c.args.self.now c.close.new.self c.args.entry.now (act.Close c.in-Close.session) c.in-Close.is
      c.close.ensures,
)

-- what is kept of the effects of a call
pub returns-in-Call-clause-kept : goal.returns-in-Call-clause-kept
returns-in-Call-clause-kept g c =
    c.call-short.ensures.kept
    ∙ ap (λ (effects : List Effect). append_pending effects (g.K.Keeper.pending c.args.keeper.now))
    (sym (call_kept c.args.self.now c.args.entry.now c.call-short.result c.in-Call.session c.in-Call.reference
    c.in-Call.call c.requires.sound c.in-Call.is))
