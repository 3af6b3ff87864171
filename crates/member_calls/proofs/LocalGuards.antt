-- The guards of local numbers, one after another.
use Rattle.std.proofs.Common.{◌≡◌, ℕ, ◌+◌, ◌<◌, ◌≤◌, List, [], ◌∷◌, ◌++◌, length, drop, get_or, Some, None}
use Rattle.std.proofs.Common.{zero, suc, ◌≢◌, ◌==◌, Bool, true, false, not, All, refl, arith}
use Rattle.std.proofs.lemmas.Bool.{eq-eqb}
use Rattle.std.proofs.Common.{sym, ap, ◌∙◌}
use Rattle.std.proofs.lemmas.List.{drop_more, drop_all}
use Rattle.kom_model.specs.declared.call_errors.Refused.{Refused}
use Rattle.kom_model.specs.calls.Guards.{Guard, unless, first_refusal}
use Rattle.kom_model.specs.calls.Memberships.{drawn_local_guard, local_guards, all_locals_guards}
use Rattle.member_calls.proofs.GuardLists.{refusal-after, refusal-before}

module _ (highest : ℕ) (locals : List ℕ) where
  -- what the guards of the numbers from a place on refuse
  abbrev pub refused_from : ℕ → Guard
  refused_from place = first_refusal (all_locals_guards highest (drop place locals))

  module _ (place local : ℕ) (inside : place < length locals) (is : local ≡ get_or locals place local) where
    split : refused_from place
        ≡ first_refusal (local_guards highest local ++ all_locals_guards highest (drop (place + 1) locals))
    split =
        ap (λ rest. first_refusal (all_locals_guards highest rest))
        (drop_more locals place local inside ∙ ap (λ one. one ∷ drop (place + 1) locals) (sym is))

    pub refused-next : first_refusal (local_guards highest local) ≡ None →
        refused_from place ≡ refused_from (place + 1)
    refused-next none = split ∙ refusal-after (local_guards highest local) _ none

    pub refused-here : (refused : Refused) → first_refusal (local_guards highest local) ≡ Some refused →
        refused_from place ≡ Some refused
    refused-here refused some = split ∙ refusal-before (local_guards highest local) _ refused some

  pub refused-end : (place : ℕ) → length locals ≤ place → refused_from place ≡ None
  refused-end place past =
      ap (λ rest. first_refusal (all_locals_guards highest rest)) (drop_all place locals past)

refusal-rest : (guard : Guard) (guards : List Guard) → first_refusal (guard ∷ guards) ≡ None →
    first_refusal guards ≡ None
refusal-rest None guards none = none
refusal-rest (Some refused) guards none = cc

unrefused : (holds : Bool) (code status : ℕ) (guards : List Guard) →
    first_refusal (unless holds code status ∷ guards) ≡ None → holds ≡ true
unrefused true code status guards none = refl
unrefused false code status guards none = cc

not-both : (holds : Bool) → holds ≡ true → not holds ≡ true → ⊥
not-both true is isnt = cc
not-both false is isnt = cc

-- numbers that no guard refuses are above 0
pub above_zero : (highest : ℕ) (locals : List ℕ) → first_refusal (all_locals_guards highest locals) ≡ None →
    All (λ local. local ≢ 0) locals
above_zero highest [] none k d inside = omega (arith, inside)
above_zero highest (local ∷ locals) none zero d inside = λ is.
    not-both (local == 0) (eq-eqb local 0 is)
    (unrefused (not (local == 0)) 17 0 (drawn_local_guard highest local ∷ all_locals_guards highest locals) none)
above_zero highest (local ∷ locals) none (suc k) d inside =
    let others = all_locals_guards highest locals in
    let drawn = drawn_local_guard highest local in
    above_zero highest locals
    (refusal-rest drawn others (refusal-rest (unless (not (local == 0)) 17 0) (drawn ∷ others) none)) k d
    (omega (arith, inside))
