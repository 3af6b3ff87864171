-- Effects that are made one after another.
use Rattle.std.proofs.Common.{◌≡◌, List, [], ◌∷◌, ◌++◌, refl}
use Rattle.kom_types.specs.declared.effects.Effect.{Effect}
use Rattle.kom_model.specs.Db.{Db}
use Rattle.kom_model.specs.Effects.{apply, apply_all}

pub apply_all-push : (effects : List Effect) (what : Effect) (db : Db) →
    apply_all (effects ++ what ∷ []) db ≡ apply what (apply_all effects db)
apply_all-push [] what db = refl
apply_all-push (first ∷ effects) what db = apply_all-push effects what _
