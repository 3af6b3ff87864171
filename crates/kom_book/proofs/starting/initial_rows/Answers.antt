use Rattle.std.proofs.Common.{List, ap, ◌∙◌}
use Rattle.kom_types.specs.declared.effects.Effect.{Effect}
use Rattle.kom_model.specs.Db.{Db}
use Rattle.kom_model.specs.Effects.{fitting_effects}
use Rattle.kom_model.specs.Initial.{initial_effects}
use Rattle.kom_state.specs.Keepers.{append_pending}
use Rattle.kom_book.proofs.starting.initial_rows.Goals as goal

pub returns-in-Ok-clause-kept : goal.returns-in-Ok-clause-kept
returns-in-Ok-clause-kept g c =
    c.in-Ok.ensures.kept
    ∙ ap (λ (list : List Effect). append_pending list (g.K.Keeper.pending c.args.keeper.now))
    (ap (λ (effects : List Effect). fitting_effects effects c.empty-rows.result.db) c.in_ok-effects.ensures
    ∙ ap (λ (db : Db). fitting_effects (initial_effects c.args.password.now c.args.moment) db) c.empty-rows.ensures)
