-- What a body spells is what was coded in it.
use Rattle.std.proofs.Common.{◌≡◌, ◌<◌, ◌≤◌, ℕ, zero, suc, List, [], ◌∷◌, ◌++◌, length, ap, sym, subst, ◌∙◌, refl}
use Rattle.std.proofs.Common.{arith, length-append}
use Rattle.std.proofs.lemmas.Grind.{flat_map-append}
use Rattle.std.proofs.lemmas.List.{append-nil}
use Rattle.std.specs.List.{AllByRecursion}
use Rattle.kom_types.specs.declared.effects.Effect.{Effect}
use Rattle.effect_codec.specs.Coding.{coded_effect, effect_at, IsInRange}
use Rattle.effect_codec.specs.Fields.{Read, Whole, Short}
use Rattle.effect_codec.proofs.Effects.{effect_again}
use Rattle.kom_journal.specs.Files.{body_of}
use Rattle.kom_journal.specs.Pending.{and_after, first_effects, effects_in, IsSpelled}

-- an effect has bytes
pub never_empty : (one : Effect) (rest : List ℕ) → IsInRange one → [] ≡ coded_effect one ++ rest → ⊥
never_empty one rest in_range none =
    let read : effect_at (coded_effect one ++ rest) ≡ Whole one rest = effect_again one rest in_range in
    let short : Short ≡ Whole one rest = ap effect_at none ∙ read in
    cc

some_bytes : (bytes : List ℕ) → ([] ≡ bytes ++ [] → ⊥) → 0 < length bytes
some_bytes [] never = absurd (never refl)
some_bytes (byte ∷ bytes) never = omega arith

pub has_bytes : (one : Effect) → IsInRange one → 0 < length (coded_effect one)
has_bytes one in_range = some_bytes (coded_effect one) (never_empty one [] in_range)

-- no effect has fewer bytes than one
no_more : (effects : List Effect) → AllByRecursion IsInRange effects → length effects ≤ length (body_of effects)
no_more [] in_range = omega arith
no_more (one ∷ effects) in_range =
    omega (
      arith,
      length-append (coded_effect one) (body_of effects),
      has_bytes one in_range.0,
      no_more effects in_range.1,
    )

first_again : (many : ℕ) (effects : List Effect) → AllByRecursion IsInRange effects → length effects ≤ many
    → first_effects many (body_of effects) ≡ effects
unfolding first_effects
first_again zero [] in_range few = refl
first_again zero (one ∷ effects) in_range few = absurd (omega (arith, few))
first_again (suc more) [] in_range few = refl
first_again (suc more) (one ∷ effects) in_range few =
    let read : effect_at (coded_effect one ++ body_of effects) ≡ Whole one (body_of effects) =
    effect_again one (body_of effects) in_range.0 in
    let after : first_effects more (body_of effects) ≡ effects =
    first_again more effects in_range.1 (omega (arith, few)) in
    ap (λ (r : Read Effect). and_after r (first_effects more)) read ∙ ap (λ (l : List Effect). one ∷ l) after

-- a body spells what was coded in it
pub effects_again : (effects : List Effect) → AllByRecursion IsInRange effects
    → effects_in (body_of effects) ≡ effects
unfolding effects_in
effects_again effects in_range =
    first_again (length (body_of effects)) effects in_range (no_more effects in_range)

-- the body of no effects has no bytes
pub effects_of_none : effects_in [] ≡ []
effects_of_none = effects_again [] tt

pub spelled_none : IsSpelled []
spelled_none = record {
  whole = ap body_of (sym effects_of_none);
  coded = subst (AllByRecursion IsInRange) (sym effects_of_none) tt;
}

pub body_both : (ones others : List Effect) → body_of (ones ++ others) ≡ body_of ones ++ body_of others
body_both ones others = flat_map-append coded_effect ones others

pub body_more : (effects : List Effect) (one : Effect)
    → body_of (effects ++ one ∷ []) ≡ body_of effects ++ coded_effect one
body_more effects one =
    body_both effects (one ∷ []) ∙ ap (λ (l : List ℕ). body_of effects ++ l) (append-nil (coded_effect one))

pub all_more : {X : Type 0} → (P : X → Type 0) (xs ys : List X) → AllByRecursion P xs → AllByRecursion P ys
    → AllByRecursion P (xs ++ ys)
all_more P [] ys of_xs of_ys = of_ys
all_more P (x ∷ xs) ys of_xs of_ys = (of_xs.0, all_more P xs ys of_xs.1 of_ys)

-- what is coded after a body is spelled after it
pub record SpellsMore (body : List ℕ) (one : Effect) : Type 0 where
  pub effects : effects_in (body ++ coded_effect one) ≡ effects_in body ++ one ∷ []
  pub spelled : IsSpelled (body ++ coded_effect one)

pub spells_more : (body : List ℕ) (one : Effect) → IsSpelled body → IsInRange one → SpellsMore body one
spells_more body one spelled in_range =
    let more = effects_in body ++ one ∷ [] in
    let coded : AllByRecursion IsInRange more =
    all_more IsInRange (effects_in body) (one ∷ []) spelled.coded (in_range, tt) in
    let whole : body ++ coded_effect one ≡ body_of more =
    ap (λ (l : List ℕ). l ++ coded_effect one) spelled.whole ∙ sym (body_more (effects_in body) one) in
    let effects : effects_in (body ++ coded_effect one) ≡ more = ap effects_in whole ∙ effects_again more coded in
    record {
      effects = effects;
      spelled = record {
        whole = whole ∙ ap body_of (sym effects);
        coded = subst (AllByRecursion IsInRange) (sym effects) coded;
      };
    }

-- nothing waits exactly where the body is empty
pub none_waits : (body : List ℕ) → IsSpelled body → effects_in body ≡ [] → body ≡ []
none_waits body spelled none = spelled.whole ∙ ap body_of none
