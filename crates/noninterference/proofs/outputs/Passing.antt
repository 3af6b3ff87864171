-- Definitions that come to the same, guard by guard.
use Rattle.std.proofs.Common.{◌≡◌, ℕ, Bool, true, false, cond, List, [], ◌∷◌, Option, Some, None, refl, sym, ap}
use Rattle.std.proofs.Common.{subst, ◌∙◌}
use Rattle.kom_types.specs.declared.decisions.Decision.{Decision}
use Rattle.kom_model.specs.declared.call_errors.Refused.{Refused}
use Rattle.kom_model.specs.calls.Call.{Definition, outcome_of}
use Rattle.kom_model.specs.calls.Guards.{Guard, refusal, unless, first_refusal, with_guards}
use Rattle.noninterference.specs.outputs.Answers.{ComesToSame}

-- a guard that lets pass holds
pub passed : (holds : Bool) (code status : ℕ) → unless holds code status ≡ None → holds ≡ true
passed true code status passes = refl
passed false code status passes = cc

pub numbered-passed : (zero holds : Bool) (code code' status : ℕ) →
    cond zero (refusal code 0) (unless holds code' status) ≡ None → holds ≡ true
numbered-passed true holds code code' status passes = cc
numbered-passed false holds code code' status passes = passed holds code' status passes

-- What a guard refuses, or else what those after it do. It does not unfold, so that a goal shows each guard.
pub or_next : Guard → Guard → Guard
or_next None others = others
or_next (Some refused) others = Some refused

pub by-guard : (guard : Guard) (guards : List Guard) →
    first_refusal (guard ∷ guards) ≡ or_next guard (first_refusal guards)
unfolding or_next
by-guard None guards = refl
by-guard (Some refused) guards = refl

-- a definition comes to the same as itself
pub itself : (definition : Definition) → ComesToSame definition definition
itself definition = record { early = refl; rest = λ passes. refl }

pub from-path : (one other : Definition) → one ≡ other → ComesToSame one other
from-path one other same = subst (λ (definition : Definition). ComesToSame one definition) same (itself one)

-- the guards that are left are the same; and no guard is left
pub resting : {guards : Guard} {one other : Decision} → one ≡ other →
    ComesToSame (record { early = guards; rest = one }) (record { early = guards; rest = other })
resting same = record { early = refl; rest = λ passes. same }

pub ended : {one other : Decision} → one ≡ other →
    ComesToSame (record { early = None; rest = one }) (record { early = None; rest = other })
ended same = record { early = refl; rest = λ passes. same }

-- a guard that is the same, and what comes after it, which is to be so only where it lets pass
pub passing : {one other ones others : Guard} {rest rest' : Decision} → one ≡ other →
    (other ≡ None → ComesToSame (record { early = ones; rest = rest }) (record { early = others; rest = rest' })) →
    ComesToSame (record { early = or_next one ones; rest = rest })
    (record { early = or_next other others; rest = rest' })
unfolding or_next
passing {one} {other} {ones} {others} {rest} {rest'} same after =
    subst (λ (guard : Guard). ComesToSame (record { early = or_next guard ones; rest = rest })
    (record { early = or_next other others; rest = rest' })) (sym same) (behind other after) where
      behind : (guard : Guard) →
          (guard ≡ None →
          ComesToSame (record { early = ones; rest = rest }) (record { early = others; rest = rest' })) →
          ComesToSame (record { early = or_next guard ones; rest = rest })
          (record { early = or_next guard others; rest = rest' })
      behind None after = after refl
      behind (Some refused) after = record { early = refl; rest = λ passes. cc }

-- the same of guards alone
pub refusing : {one other ones others : Guard} → one ≡ other → (other ≡ None → ones ≡ others) →
    or_next one ones ≡ or_next other others
unfolding or_next
refusing {one} {other} {ones} {others} same after =
    ap (λ guard. or_next guard ones) same ∙ behind other after where
      behind : (guard : Guard) → (guard ≡ None → ones ≡ others) → or_next guard ones ≡ or_next guard others
      behind None after = after refl
      behind (Some refused) after = refl

-- two guards, and what a call comes to after them
pub two-guards : (first first' second second' : Guard) (rest rest' : Decision) → first ≡ first' → second ≡ second' →
    (first' ≡ None → second' ≡ None → rest ≡ rest') →
    ComesToSame (with_guards (first ∷ second ∷ []) rest) (with_guards (first' ∷ second' ∷ []) rest')
two-guards first first' second second' rest rest' same same' after =
    simp by-guard (passing same (λ passes. passing same' (λ passes'. ended (after passes passes'))))

-- definitions that come to the same are decided the same
pub decided-same : (one other : Definition) → ComesToSame one other → outcome_of one ≡ outcome_of other
decided-same one other same =
    ap (λ early. outcome_of (record { early = early; rest = one.rest })) same.early
    ∙ by-rest other.early same.rest where
      by-rest : (early : Option Refused) → (early ≡ None → one.rest ≡ other.rest) →
          outcome_of (record { early = early; rest = one.rest })
          ≡ outcome_of (record { early = early; rest = other.rest })
      by-rest None rest = rest refl
      by-rest (Some refused) rest = refl
