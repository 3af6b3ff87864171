-- Effects that all fit and make rows of rows; and counters that are raised.
use Rattle.std.proofs.Common.{◌≡◌, ℕ, true, ◌==◌, List, [], ◌∷◌, ◌++◌, refl, sym, ◌∙◌, ap}
use Rattle.std.proofs.Common.{inl, inr, subst, eqb-true}
use Rattle.std.proofs.lemmas.Bool.{cases_Bool, and_parts}
use Rattle.kom_types.specs.declared.effects.Effect.{Effect}
use Rattle.kom_model.specs.Db.{Db}
use Rattle.kom_model.specs.Effects.{fits, after_effect, apply, apply_all, all_fit}
use Rattle.kom_types.specs.declared.raised.Raised.{Raised}
use Rattle.kom_model.specs.Raising.{may_raise, raised_in}
use Rattle.kom_snapshot.specs.Snapshot.{raise_all, all_may_raise}
use Rattle.kom_snapshot.specs.Snap.{unless_zero}

-- each effect fits after those before it, and all of them make the new rows
pub record Replays (effects : List Effect) (old new : Db) : Type 0 where
  pub fit : all_fit effects old ≡ true
  pub same : apply_all effects old ≡ new

pub replays-none : (db : Db) → Replays [] db db
replays-none db = record { fit = refl; same = refl }

-- nothing changes where the rows are the same
pub replays-same : (old new : Db) → old ≡ new → Replays [] old new
replays-same old new same = record { fit = refl; same = same }

pub replays-cons : (what : Effect) (others : List Effect) (old mid new : Db) → fits what old ≡ true →
    after_effect what old ≡ mid → Replays others mid new → Replays (what ∷ others) old new
replays-cons what others old mid new fit makes rest =
    let one : apply what old ≡ mid = rw fit makes in
    record {
      fit = rw (fit, makes) rest.fit;
      same = ap (apply_all others) one ∙ rest.same;
    }

pub replays-one : (what : Effect) (old new : Db) → fits what old ≡ true → after_effect what old ≡ new →
    Replays (what ∷ []) old new
replays-one what old new fit makes = replays-cons what [] old new new fit makes (replays-none new)

pub replays-append : (first second : List Effect) (old mid new : Db) → Replays first old mid →
    Replays second mid new → Replays (first ++ second) old new
replays-append [] second old mid new one other = subst (λ db. Replays second db new) (sym one.same) other
replays-append (what ∷ first) second old mid new one other =
    let parts = and_parts (fits what old) (all_fit first (apply what old)) one.fit in
    let makes : apply what old ≡ after_effect what old = rw parts.0 refl in
    replays-cons what (first ++ second) old (after_effect what old) new parts.0 refl
    (replays-append first second (after_effect what old) mid new
    (subst (λ db. Replays first db mid) makes (record { fit = parts.1; same = one.same })) other)

-- an effect that is left out where a number is 0
pub replays-unless : (n : ℕ) (what : Effect) (state : ℕ → Db) → Replays (what ∷ []) (state 0) (state n) →
    Replays (unless_zero n what) (state 0) (state n)
replays-unless n what state replays = elim (cases_Bool (n == 0)) [
  | inl zero ↦ rw zero (replays-same (state 0) (state n) (ap state (sym (eqb-true n 0 zero))))
  | inr some ↦ rw some replays
]

-- each counter may be raised after those before it, and the rows are new then
pub record Raises (raised : List Raised) (old new : Db) : Type 0 where
  pub may : all_may_raise raised old ≡ true
  pub same : raise_all raised old ≡ new

pub raises-none : (old new : Db) → old ≡ new → Raises [] old new
raises-none old new same = record { may = refl; same = same }

pub raises-cons : (given : Raised) (others : List Raised) (old mid new : Db) → may_raise given old ≡ true →
    raised_in given old ≡ mid → Raises others mid new → Raises (given ∷ others) old new
raises-cons given others old mid new may makes rest = record {
  may = rw (may, makes) rest.may;
  same = ap (raise_all others) makes ∙ rest.same;
}

pub raises-append : (first second : List Raised) (old mid new : Db) → Raises first old mid → Raises second mid new →
    Raises (first ++ second) old new
raises-append [] second old mid new one other = subst (λ db. Raises second db new) (sym one.same) other
raises-append (given ∷ first) second old mid new one other =
    let parts = and_parts (may_raise given old) (all_may_raise first (raised_in given old)) one.may in
    raises-cons given (first ++ second) old (raised_in given old) new parts.0 refl
    (raises-append first second (raised_in given old) mid new (record { may = parts.1; same = one.same }) other)
