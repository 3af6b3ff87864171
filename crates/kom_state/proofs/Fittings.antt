-- Effects that fit, one after another.
use Rattle.std.proofs.Common.{◌≡◌, Bool, true, false, cond, List, [], ◌∷◌, ◌++◌, Option, Some, None, refl, sym, ap}
use Rattle.std.proofs.Common.{◌∙◌, append_assoc, subst, IsTrue}
use Rattle.std.proofs.lemmas.Bool.{and_parts}
use Rattle.std.proofs.lemmas.List.{append-nil}
use Rattle.kom_types.specs.declared.effects.Effect.{Effect}
use Rattle.kom_model.specs.Db.{Db}
use Rattle.kom_model.specs.Effects.{fits, after_effect, apply, apply_all, all_fit, fitting_effects}
use Rattle.kom_state.specs.Keepers.{append_pending}

-- an effect that fits is made
pub apply_fit : (what : Effect) (db : Db) → fits what db ≡ true → apply what db ≡ after_effect what db
apply_fit what db fit = ap (λ (b : Bool). cond b (after_effect what db) db) fit

-- of effects that all fit the first does, and the others do after it
pub first_fits : (what : Effect) (effects : List Effect) (db : Db) → IsTrue (all_fit (what ∷ effects) db) →
    fits what db ≡ true
first_fits what effects db fit = (and_parts (fits what db) (all_fit effects (apply what db)) fit).0

pub others_fit : (what : Effect) (effects : List Effect) (db : Db) → IsTrue (all_fit (what ∷ effects) db) →
    IsTrue (all_fit effects (after_effect what db))
others_fit what effects db fit =
    let parts = and_parts (fits what db) (all_fit effects (apply what db)) fit in
    subst (λ (next : Db). all_fit effects next ≡ true) (apply_fit what db parts.0) parts.1

-- of one effect, one that fits and one that does not
pub fitting_fit : (what : Effect) (db : Db) → fits what db ≡ true → fitting_effects (what ∷ []) db ≡ what ∷ []
fitting_fit what db fit = ap (λ (b : Bool). cond b (what ∷ []) []) fit

pub fitting_unfit : (what : Effect) (db : Db) → fits what db ≡ false → fitting_effects (what ∷ []) db ≡ []
fitting_unfit what db unfit = ap (λ (b : Bool). cond b (what ∷ []) []) unfit

chosen-append : (b : Bool) (what : Effect) (some more : List Effect) →
    cond b (what ∷ (some ++ more)) (some ++ more) ≡ cond b (what ∷ some) some ++ more
chosen-append true what some more = refl
chosen-append false what some more = refl

-- one effect more
pub fitting-push : (effects : List Effect) (what : Effect) (db : Db) →
    fitting_effects (effects ++ what ∷ []) db
    ≡ fitting_effects effects db ++ fitting_effects (what ∷ []) (apply_all effects db)
fitting-push [] what db = refl
fitting-push (first ∷ effects) what db =
    let next : Db = apply first db in
    ap (λ (rest : List Effect). cond (fits first db) (first ∷ rest) rest) (fitting-push effects what next)
    ∙ chosen-append (fits first db) first (fitting_effects effects next)
    (fitting_effects (what ∷ []) (apply_all effects next))

-- no effects; and effects after others
pub appended-none : (pending : Option (List Effect)) → append_pending [] pending ≡ pending
appended-none None = refl
appended-none (Some list) = ap (λ (all : List Effect). Some all) (append-nil list)

pub appended-append : (some more : List Effect) (pending : Option (List Effect)) →
    append_pending (some ++ more) pending ≡ append_pending more (append_pending some pending)
appended-append some more None = refl
appended-append some more (Some list) = ap (λ (all : List Effect). Some all) (sym (append_assoc list some more))
