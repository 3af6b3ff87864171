use Rattle.std.proofs.Common.{ap, ◌∙◌, sym}
use Rattle.kom_model.specs.Effects.{apply}
use Rattle.kom_state.proofs.EffectLists.{apply_all-push}
use Rattle.kom_state.proofs.stored_rows.StoredRows.make_all.Goals as goal

pub loop-effect-preserved : goal.loop-effect-preserved
loop-effect-preserved c =
    c.in_ok-make.ensures ∙ ap (apply c.in-Some.effect) c.loop-effect.invariant
    ∙ sym (apply_all-push c.loop-effect.yielded c.in-Some.effect c.args.self.now.db)
