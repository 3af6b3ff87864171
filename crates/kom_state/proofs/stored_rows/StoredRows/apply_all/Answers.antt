use Rattle.std.proofs.Common.{◌≡◌, ◌∷◌, [], List, Option, refl, ap, ◌∙◌, sym, rules}
use Rattle.std.specs.Vec.Iter.{into_iter_items}
use Rattle.kom_types.specs.declared.effects.Effect.{Effect}
use Rattle.kom_model.specs.Db.{Db}
use Rattle.kom_model.specs.Effects.{fits, after_effect, apply}
use Rattle.kom_state.specs.Keepers.{append_pending}
use Rattle.kom_state.proofs.EffectLists.{apply_all-push}
use Rattle.kom_state.proofs.Fittings.{apply_fit, first_fits, others_fit, appended-none, appended-append}
use Rattle.kom_state.proofs.Using.{HasRoom-first}
use Rattle.kom_state.proofs.stored_rows.StoredRows.apply_all.Goals as goal

pub loop-effect-init : goal.loop-effect-init
loop-effect-init g c = record {
  db = refl;
  fit = search rules;
  room = search rules;
  kept = sym (appended-none (g.K.Keeper.pending c.args.keeper.now));
  kept_room = search rules;
  rest = g.met.K.Keeper.itself_stays c.args.keeper.now;
}

pub keep-requires : goal.keep-requires
keep-requires g c = record {
  room = (
    into_iter_items c.next.new.self,
    rw c.in-Some.ensures.steps.0 at c.loop-effect.invariant.kept_room,
  );
  fits = (
    c.loop-effect.self.db,
    first_fits c.in-Some.effect (into_iter_items c.next.new.self) c.loop-effect.self.db
        (rw c.in-Some.ensures.steps.0 at c.loop-effect.invariant.fit),
  );
}

pub apply_effect-requires : goal.apply_effect-requires
apply_effect-requires g c = record {
  fits =
      first_fits c.in-Some.effect (into_iter_items c.next.new.self) c.loop-effect.self.db
      (rw c.in-Some.ensures.steps.0 at c.loop-effect.invariant.fit);
  room = HasRoom-first c.in-Some.effect _ (into_iter_items c.next.new.self)
      (rw c.in-Some.ensures.steps.0 at c.loop-effect.invariant.room);
}

pub loop-effect-preserved : goal.loop-effect-preserved
loop-effect-preserved g c =
    let yielded : List Effect = c.loop-effect.yielded in
    let what : Effect = c.in-Some.effect in
    let others : List Effect = into_iter_items c.next.new.self in
    let first : Db = c.args.self.now.db in
    let db : Db = c.loop-effect.self.db in
    let waited : Option (List Effect) = g.K.Keeper.pending c.args.keeper.now in
    let all = rw c.in-Some.ensures.steps.0 at c.loop-effect.invariant.fit in
    let makes : c.apply_effect.new.self.db ≡ after_effect what db = c.apply_effect.ensures.db in
    record {
      db =
          makes ∙ sym (apply_fit what db (first_fits what others db all)) ∙ ap (apply what) c.loop-effect.invariant.db
          ∙ sym (apply_all-push yielded what first);
      fit = rw makes (others_fit what others db all);
      room =
          c.apply_effect.ensures.room others
          (rw c.in-Some.ensures.steps.0 at c.loop-effect.invariant.room);
      kept =
          c.keep.ensures.kept ∙ ap (append_pending (what ∷ [])) c.loop-effect.invariant.kept
          ∙ sym (appended-append yielded (what ∷ []) waited);
      kept_room =
          c.keep.ensures.room others
          (rw c.in-Some.ensures.steps.0 at c.loop-effect.invariant.kept_room);
      rest = g.met.K.Keeper.stays_on _ _ _ c.loop-effect.invariant.rest c.keep.ensures.rest;
    }
