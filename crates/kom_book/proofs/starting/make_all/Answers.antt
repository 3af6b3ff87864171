use Rattle.std.proofs.Common.{◌∷◌, [], List, Option, refl, ap, ◌∙◌, sym}
use Rattle.kom_types.specs.declared.effects.Effect.{Effect}
use Rattle.kom_model.specs.Db.{Db}
use Rattle.kom_model.specs.Effects.{apply, apply_all, fitting_effects}
use Rattle.kom_state.specs.Keepers.{append_pending}
use Rattle.kom_state.proofs.EffectLists.{apply_all-push}
use Rattle.kom_state.proofs.Fittings.{fitting-push, appended-none, appended-append}
use Rattle.kom_book.proofs.starting.make_all.Goals as goal

pub loop-effect-init : goal.loop-effect-init
loop-effect-init g c = record {
  rows = refl;
  kept = sym (appended-none (g.K.Keeper.pending c.args.keeper.now));
  rest = g.met.K.Keeper.itself_stays c.args.keeper.now;
}

pub loop-effect-preserved : goal.loop-effect-preserved
loop-effect-preserved g c =
    let yielded : List Effect = c.loop-effect.yielded in
    let what : Effect = c.in-Some.effect in
    let first : Db = c.args.rows.now.db in
    let waited : Option (List Effect) = g.K.Keeper.pending c.args.keeper.now in
    record {
      rows =
          c.in_ok-make_one.ensures.rows ∙ ap (apply what) c.loop-effect.invariant.rows
          ∙ sym (apply_all-push yielded what first);
      kept =
          c.in_ok-make_one.ensures.kept
          ∙ ap (λ (db : Db). append_pending (fitting_effects (what ∷ []) db) (g.K.Keeper.pending c.loop-effect.keeper))
          c.loop-effect.invariant.rows
          ∙ ap (append_pending (fitting_effects (what ∷ []) (apply_all yielded first))) c.loop-effect.invariant.kept
          ∙ sym (appended-append (fitting_effects yielded first)
          (fitting_effects (what ∷ []) (apply_all yielded first)) waited)
          ∙ ap (λ (list : List Effect). append_pending list waited) (sym (fitting-push yielded what first));
      rest = g.met.K.Keeper.stays_on _ _ _ c.loop-effect.invariant.rest c.make_one.ensures.rest;
    }

pub returns-in_err-make_one-clause-rest : goal.returns-in_err-make_one-clause-rest
returns-in_err-make_one-clause-rest g c =
    g.met.K.Keeper.stays_on _ _ _ c.loop-effect.invariant.rest c.make_one.ensures.rest
