-- Rows that effects make, and in which counters are raised, are whole, and as a snapshot gives them again.
use Rattle.std.proofs.Common.{◌≡◌, true, [], ◌∷◌, refl, sym, subst}
use Rattle.kom_types.specs.declared.effects.Effect.{Effect}
use Rattle.kom_types.specs.declared.raised.Raised.{Raised}
use Rattle.kom_model.specs.Db.{Db, empty_db}
use Rattle.kom_model.specs.Effects.{fits, after_effect, apply}
use Rattle.kom_model.specs.Raising.{may_raise, raised_in}
use Rattle.kom_model.proofs.Protection.{IsProtected-apply_all}
use Rattle.kom_model.proofs.whole.Effects.{effects-whole, empty-whole}
use Rattle.kom_snapshot.specs.Laws.{IsRestorable}
use Rattle.kom_snapshot.proofs.Keeping.{effects-listed, empty-listed}
use Rattle.kom_snapshot.proofs.Raises.{raised-kept}

pub whole_empty : (db : Db) → db ≡ empty_db → IsRestorable db
whole_empty db is =
    subst IsRestorable (sym is) (record { whole = empty-whole; protected = tt; listed = empty-listed })

-- one more that fits
pub whole_made : (what : Effect) (old new : Db) → fits what old ≡ true → new ≡ after_effect what old →
    IsRestorable old →
    IsRestorable new
whole_made what old new fit is kept =
    let same : apply what old ≡ new = rw (fit, is) refl in
    subst IsRestorable same (record {
      whole = effects-whole (what ∷ []) old kept.whole;
      protected = IsProtected-apply_all (what ∷ []) old kept.protected;
      listed = effects-listed (what ∷ []) old kept.whole kept.listed;
    })

-- one counter more that may be raised so
pub whole_raised : (given : Raised) (old new : Db) → may_raise given old ≡ true → new ≡ raised_in given old →
    IsRestorable old → IsRestorable new
whole_raised given old new may is kept = subst IsRestorable (sym is) (raised-kept given old may kept)
