-- What a keeper gets of one effect.
use Rattle.std.proofs.Common.{◌≡◌, Bool, true, false, cond, List, [], ◌∷◌, Option, sym, ap, ◌∙◌}
use Rattle.kom_types.specs.declared.effects.Effect.{Effect}
use Rattle.kom_model.specs.Db.{Db}
use Rattle.kom_model.specs.Effects.{fits, after_effect, apply, fitting_effects}
use Rattle.kom_state.specs.Keepers.{append_pending}
use Rattle.kom_state.proofs.Fittings.{fitting_fit, fitting_unfit, appended-none}

pub apply_fit : (what : Effect) (db : Db) → fits what db ≡ true → apply what db ≡ after_effect what db
apply_fit what db fit = ap (λ (b : Bool). cond b (after_effect what db) db) fit

pub apply_unfit : (what : Effect) (db : Db) → fits what db ≡ false → apply what db ≡ db
apply_unfit what db unfit = ap (λ (b : Bool). cond b (after_effect what db) db) unfit

-- one that fits; and one that does not
pub kept_fit : (what : Effect) (db : Db) (old new : Option (List Effect)) → fits what db ≡ true →
    new ≡ append_pending (what ∷ []) old → new ≡ append_pending (fitting_effects (what ∷ []) db) old
kept_fit what db old new fit kept =
    kept ∙ ap (λ (list : List Effect). append_pending list old) (sym (fitting_fit what db fit))

pub kept_unfit : (what : Effect) (db : Db) (old new : Option (List Effect)) → fits what db ≡ false → new ≡ old →
    new ≡ append_pending (fitting_effects (what ∷ []) db) old
kept_unfit what db old new unfit same =
    same ∙ sym (appended-none old)
    ∙ ap (λ (list : List Effect). append_pending list old) (sym (fitting_unfit what db unfit))
